-- Laws of Read and Write on the plain machine, for any parameters, addresses and counts.
use Prim.Native.Nat.{ℕ, zero, suc, ◌+◌, ◌*◌, ◌≤◌, ◌<◌}
use mathlib.Core.Path.{◌≡◌, refl, sym, ap, subst, ◌∙◌}
use mathlib.Core.Logic.{◌⊎◌, inl, inr}
use mathlib.Core.Bool.{true}
use mathlib.Core.List.{List, []}
use native.Mathlib.Omega.{arith}
use native.Mathlib.Nat.{add-zero}
use lib.ListN.{length, take, drop}
use borrow.Author.Tests.{eq-eqb}
use Rattle.base.proofs.Decide.{pick_true}
use Rattle.geometry.specs.declared.params.Lba.{Lba}
use Rattle.geometry.specs.declared.params.Track.{Track}
use Rattle.geometry.specs.declared.params.Params.{Params}
use Rattle.geometry.specs.Params.{track_of, further, next}
use Rattle.geometry.proofs.Addresses.{further_next}
use Rattle.model.specs.Verdicts.{Verdict}
use Rattle.model.specs.Verdicts.{Refused, Faulty, Passed}
use Rattle.model.specs.declared.block.Block.{Block}
use Rattle.model.specs.Block.{count_of}
use Rattle.model.specs.Checks.{judged}
use Rattle.model.specs.Sense.{sense_of}
use Rattle.model.specs.Feed.{Reply}
use Rattle.model.specs.Machine.{Kind, bad, taken, Disk, Machine, changed, with_sense, storing, denied, Passage, finished, with_first, passing, failing_on}
use Rattle.model.specs.Machine.{read_from, write_from, inARow, transfer_by, transfer, read, write}
use Rattle.model.specs.Claim.{is_held}
use Rattle.model.proofs.engine.Checked.{count_some}
use Rattle.model.proofs.readers.HeldSectors.{stops_bad, stops_taken, says, held_from, pieces, stored_from, pieces_row, pieces_length}
use Rattle.model.proofs.readers.HeldSectors.{held_length, says_kept, stored_apart, held_stored, read_all_lem, write_all_lem, read_stops, write_stops}
use Rattle.model.proofs.claim.Claimed.{held_passed}

-- a passage that ended well passed its first sector
went_well : (v : Verdict) (u : Disk) (x : Passage) → (passing v u x).end ≡ Passed → (v ≡ Passed) × (x.end ≡ Passed)
unfolding passing finished
went_well (Refused number) u x e = absurd (let z : ◌≡◌ {A = ℕ} 0 1 = cc in omega arith)
went_well (Faulty code at) u x e = absurd (let z : ◌≡◌ {A = ℕ} 0 1 = cc in omega arith)
went_well Passed u x e = (refl, e)

first_end : (sector : List ℕ) (x : Passage) → (with_first sector x).end ≡ x.end
unfolding with_first
first_end sector x = refl

-- 19h on a bad track, 1Ch on a taken one
data Denied : Kind → (code : ℕ) → Type 0 where
  by_bad : Denied bad 0x19
  by_taken : {t : Track} → Denied (taken t) 0x1C

denied_says : {kind : Kind} {code : ℕ} → Denied kind code → (a : Lba) → judged (denied kind a) ≡ Faulty code a
denied_says by_bad a = stops_bad a
denied_says (by_taken {t}) a = stops_taken t a

-- a command that ends with a code: k sectors counted, these bytes handed over; code and address are in the sense
Fails : Block → (code : ℕ) → Lba → (k : ℕ) → (handed : List ℕ) → Reply × Machine → Type 0
Fails b code at k handed r =
    (r.0 ≡ record { number = 0; status = 2 + 32 * b.drive; message = 0; sectors = k; bytes = length handed; handed = handed })
    × (r.1.senses b.drive ≡ sense_of code b.drive at)

transfer_fails : (b : Block) (code : ℕ) (at : Lba) (x : Passage) (handed : List ℕ) (m : Machine) (k : ℕ) → x.end ≡ Faulty code at
    → length x.sectors ≡ k → Fails b code at k handed (transfer b x handed m)
unfolding Fails transfer transfer_by failing_on with_sense changed
transfer_fails b code at x handed m k e l = rw (e, l) (refl, pick_true _ _ _ (eq-eqb b.drive b.drive refl))

module _ (p : Params) where
  -- ---- Write, then Read
  -- a Write that ended well passed every sector
  all_passed : (n : ℕ) (a : Lba) (given : List ℕ) (u : Disk) → (write_from p n a given u).end ≡ Passed → (i : ℕ) → i < n → says p u (further a i) ≡ Passed
  unfolding write_from storing
  all_passed zero a given u e i h = absurd (omega arith)
  all_passed (suc n) a given u e zero h = rw add-zero (went_well _ u _ e).0
  all_passed (suc n) a given u e (suc i) h =
      let rest = (went_well _ u _ e).1 in
      ap (says p u) (sym (further_next a i))
      ∙ all_passed n (next a) (drop p.size given) (storing a (take p.size given) u) (sym (first_end _ _) ∙ rest) i (omega arith)

  module _ (n : ℕ) (a : Lba) (given : List ℕ) (u : Disk) (well : (write_from p n a given u).end ≡ Passed) where
    -- the disk after the Write
    abbrev v : Disk
    v = (write_from p n a given u).disk

    write_then_read : read_from p n a v ≡ record { sectors = (write_from p n a given u).sectors; end = Passed; disk = v }
    write_then_read =
        let passed = all_passed n a given u well in
        subst (λ (x : Passage). read_from p n a x.disk ≡ record { sectors = x.sectors; end = Passed; disk = x.disk })
        (sym (write_all_lem p n a given u passed))
        (read_all_lem p n a (stored_from p n a given u) (λ i h. says_kept p n a given u (further a i) ∙ passed i h)
        ∙ ap (λ (s : List (List ℕ)). record { sectors = s; end = Passed; disk = stored_from p n a given u }) (held_stored p n a given u))

    -- as bytes: the front of what was given
    bytes_read : inARow (read_from p n a v).sectors ≡ take (n * p.size) given
    bytes_read =
        ap (λ (x : Passage). inARow x.sectors) write_then_read
        ∙ ap (λ (x : Passage). inARow x.sectors) (write_all_lem p n a given u (all_passed n a given u well)) ∙ pieces_row p n given

  -- ---- Other addresses keep their bytes, and every track its state, however the Write ends
  kept_by : (Q : Disk → Type 0) (w : Verdict) (u : Disk) (sector : List ℕ) (x : Passage) → Q u → Q x.disk
      → Q (passing w u (with_first sector x)).disk
  unfolding passing finished with_first
  kept_by Q (Refused number) u sector x hu hx = hu
  kept_by Q (Faulty code at) u sector x hu hx = hu
  kept_by Q Passed u sector x hu hx = hx

  others_keep : (n : ℕ) (a : Lba) (given : List ℕ) (u : Disk) (b : Lba) → (b.0 < a.0) ⊎ (a.0 + n ≤ b.0) → (write_from p n a given u).disk.held b ≡ u.held b
  unfolding write_from finished
  others_keep zero a given u b h = refl
  others_keep (suc n) a given u b h =
      kept_by (λ x. x.held b ≡ u.held b) _ u _ _ refl
      (others_keep n (next a) (drop p.size given) (storing a (take p.size given) u) b (past h)
      ∙ stored_apart p a (take p.size given) u b (apart h))
    where
      past : (b.0 < a.0) ⊎ (a.0 + suc n ≤ b.0) → (b.0 < suc a.0) ⊎ (suc a.0 + n ≤ b.0)
      past (inl l) = inl (omega arith)
      past (inr l) = inr (omega arith)

      apart : (b.0 < a.0) ⊎ (a.0 + suc n ≤ b.0) → b.0 ≡ a.0 → ⊥
      apart (inl l) e = omega arith
      apart (inr l) e = omega arith

  tracks_keep : (n : ℕ) (a : Lba) (given : List ℕ) (u : Disk)
      → ((write_from p n a given u).disk.kind ≡ u.kind) × ((write_from p n a given u).disk.inter ≡ u.inter)
  unfolding write_from finished storing
  tracks_keep zero a given u = (refl, refl)
  tracks_keep (suc n) a given u =
      kept_by (λ x. (x.kind ≡ u.kind) × (x.inter ≡ u.inter)) _ u _ _ (refl, refl)
      (tracks_keep n (next a) (drop p.size given) (storing a (take p.size given) u))

  -- ---- Sound and moved tracks alike: what is read and written there does not depend on which of the two a track is
  module _ (n : ℕ) (a : Lba) (u : Disk) (held : (i : ℕ) → i < n → is_held (u.kind (track_of p (further a i))) ≡ true) where
    held_read : read_from p n a u ≡ record { sectors = held_from p n a u; end = Passed; disk = u }
    held_read = read_all_lem p n a u (λ i h. held_passed _ _ (held i h))

    held_written : (given : List ℕ) → write_from p n a given u ≡ record { sectors = pieces p n given; end = Passed; disk = stored_from p n a given u }
    held_written given = write_all_lem p n a given u (λ i h. held_passed _ _ (held i h))

  -- ---- The first sector k on a bad or taken track ends it: k sectors are done, and its own address goes with its code
  module _ (k n : ℕ) (a : Lba) (u : Disk) (less : k < n) (held : (i : ℕ) → i < k → is_held (u.kind (track_of p (further a i))) ≡ true)
      (code : ℕ) (here : Denied (u.kind (track_of p (further a k))) code) where
    read_ends : read_from p n a u ≡ record { sectors = held_from p k a u; end = Faulty code (further a k); disk = u }
    read_ends = read_stops p k n a u less (λ i h. held_passed _ _ (held i h)) code (further a k) (denied_says here (further a k))

    write_ends : (given : List ℕ)
        → write_from p n a given u ≡ record { sectors = pieces p k given; end = Faulty code (further a k); disk = stored_from p k a given u }
    write_ends = write_stops p k n a u less (λ i h. held_passed _ _ (held i h)) code (further a k) (denied_says here (further a k))

  -- the same in the answers of the two commands, and in the sense that they leave
  module _ (b : Block) (m : Machine) (u : Disk) (k : ℕ) (less : k < count_of b)
      (held : (i : ℕ) → i < k → is_held (u.kind (track_of p (further b.address i))) ≡ true)
      (code : ℕ) (here : Denied (u.kind (track_of p (further b.address k))) code) where
    read_answer : Fails b code (further b.address k) k (inARow (held_from p k b.address u)) (read b p m u)
    unfolding read
    read_answer =
        rw (read_ends k (count_of b) b.address u less held code here)
        (transfer_fails b code (further b.address k) _ (inARow (held_from p k b.address u)) m k refl (held_length p k b.address u))

    write_answer : (given : List ℕ) → Fails b code (further b.address k) k [] (write b p given m u)
    unfolding write
    write_answer given =
        rw (write_ends k (count_of b) b.address u less held code here given)
        (transfer_fails b code (further b.address k) _ [] m k refl (pieces_length p k given))

  -- so Read and Write on a bad track are 19h, on a taken one 1Ch, at once
  module _ (b : Block) (m : Machine) (u : Disk) (code : ℕ) (here : Denied (u.kind (track_of p b.address)) code) where
    read_denied : Fails b code b.address 0 [] (read b p m u)
    unfolding held_from inARow
    read_denied = rw add-zero at (read_answer b m u 0 (count_some b) (λ i h. absurd (omega arith)) code (rw add-zero here))

    write_denied : (given : List ℕ) → Fails b code b.address 0 [] (write b p given m u)
    write_denied given = rw add-zero at (write_answer b m u 0 (count_some b) (λ i h. absurd (omega arith)) code (rw add-zero here) given)
