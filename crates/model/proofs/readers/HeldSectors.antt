-- Sectors in address order on the plain machine: those held, those given, and what passages of them come to.
use Prim.Native.Nat.{ℕ, zero, suc, ◌+◌, ◌-◌, ◌*◌, ◌<◌}
use mathlib.Core.Path.{◌≡◌, refl, sym, ap, ap₂, ◌∙◌}
use mathlib.Core.List.{List, [], ◌∷◌, ◌++◌, append-nil}
use native.Mathlib.Omega.{arith}
use native.Mathlib.Nat.{add-zero, zero-mul}
use lib.ListN.{length, take, drop}
use lib.Seq.{take-add, drop-drop}
use borrow.Author.Tests.{eq-eqb, ne_eqb}
use Rattle.base.specs.Pick.{pick}
use Rattle.base.proofs.Decide.{pick_true, pick-false}
use Rattle.geometry.specs.declared.params.Lba.{Lba}
use Rattle.geometry.specs.declared.params.Track.{Track}
use Rattle.geometry.specs.declared.params.Params.{Params}
use Rattle.geometry.specs.Params.{track_of, further, next}
use Rattle.geometry.proofs.Addresses.{further_next}
use Rattle.model.specs.Verdicts.{Verdict}
use Rattle.model.specs.Verdicts.{Faulty, Passed}
use Rattle.model.specs.Checks.{judged}
use Rattle.model.specs.Machine.{bad, taken, Disk, storing, is_bad, is_taken, denied}
use Rattle.model.specs.Machine.{Passage, finished, with_first, passing, read_from, write_from, inARow}

pub stops_bad : (a : Lba) → judged (denied bad a) ≡ Faulty 0x19 a
unfolding judged denied is_bad is_taken pick
stops_bad a = refl

pub stops_taken : (t : Track) (a : Lba) → judged (denied (taken t) a) ≡ Faulty 0x1C a
unfolding judged denied is_bad is_taken pick
stops_taken t a = refl

-- ---- Sectors in front of a passage
before : List (List ℕ) → Passage → Passage
before sectors x = record { sectors = sectors ++ x.sectors; end = x.end; disk = x.disk }

before_first : (sector : List ℕ) (sectors : List (List ℕ)) (x : Passage) → with_first sector (before sectors x) ≡ before (sector ∷ sectors) x
unfolding with_first before
before_first sector sectors x = refl

before_none : (x : Passage) → before [] x ≡ x
unfolding before
before_none x = refl

passes : (v : Verdict) (u : Disk) (x : Passage) → v ≡ Passed → passing v u x ≡ x
unfolding passing
passes v u x e = rw e

stops : (v : Verdict) (u : Disk) (x : Passage) (code : ℕ) (at : Lba) → v ≡ Faulty code at → passing v u x ≡ finished (Faulty code at) u
unfolding passing
stops v u x code at e = rw e

module _ (p : Params) where
  -- what the state of the track of address a says
  abbrev pub says : Disk → Lba → Verdict
  says u a = judged (denied (u.kind (track_of p a)) a)

  says_stored : (a b : Lba) (sector : List ℕ) (u : Disk) → says (storing a sector u) b ≡ says u b
  unfolding storing
  says_stored a b sector u = refl

  -- ---- k sectors from address a on: as held, as given one after the other, and the disk with these stored
  unfoldable pub held_from : (k : ℕ) → Lba → Disk → List (List ℕ)
  held_from zero a u = []
  held_from (suc k) a u = u.held a ∷ held_from k (next a) u

  pub pieces : (k : ℕ) → (given : List ℕ) → List (List ℕ)
  pieces zero given = []
  pieces (suc k) given = take p.size given ∷ pieces k (drop p.size given)

  pub stored_from : (k : ℕ) → Lba → (given : List ℕ) → Disk → Disk
  stored_from zero a given u = u
  stored_from (suc k) a given u = stored_from k (next a) (drop p.size given) (storing a (take p.size given) u)

  -- storing changes no track's state
  pub says_kept : (k : ℕ) (a : Lba) (given : List ℕ) (u : Disk) (b : Lba) → says (stored_from k a given u) b ≡ says u b
  unfolding stored_from
  says_kept zero a given u b = refl
  says_kept (suc k) a given u b =
      says_kept k (next a) (drop p.size given) (storing a (take p.size given) u) b ∙ says_stored a b (take p.size given) u

  -- the sectors one after the other are the front of what was given
  pub pieces_row : (k : ℕ) (given : List ℕ) → inARow (pieces k given) ≡ take (k * p.size) given
  unfolding inARow pieces
  pieces_row zero given = let z : 0 * p.size ≡ 0 = zero-mul p.size in rw z
  pieces_row (suc k) given =
      let z : suc k * p.size ≡ p.size + k * p.size = omega arith in
      rw (z, pieces_row k (drop p.size given)) (sym (take-add p.size (k * p.size) given))

  pub pieces_length : (k : ℕ) (given : List ℕ) → length (pieces k given) ≡ k
  unfolding pieces
  pieces_length zero given = refl
  pieces_length (suc k) given = ap suc (pieces_length k (drop p.size given))

  pub held_length : (k : ℕ) (a : Lba) (u : Disk) → length (held_from k a u) ≡ k
  unfolding held_from
  held_length zero a u = refl
  held_length (suc k) a u = ap suc (held_length k (next a) u)

  -- an address has what was stored there, any other what it had
  stored_same : (a : Lba) (sector : List ℕ) (u : Disk) → (storing a sector u).held a ≡ sector
  unfolding storing
  stored_same a sector u = pick_true _ _ _ (eq-eqb a.0 a.0 refl)

  pub stored_apart : (a : Lba) (sector : List ℕ) (u : Disk) (b : Lba) → (b.0 ≡ a.0 → ⊥) → (storing a sector u).held b ≡ u.held b
  unfolding storing
  stored_apart a sector u b ne = pick-false _ _ _ (ne_eqb b.0 a.0 ne)

  stored_before : (k : ℕ) (a : Lba) (given : List ℕ) (u : Disk) (b : Lba) → b.0 < a.0 → (stored_from k a given u).held b ≡ u.held b
  unfolding stored_from
  stored_before zero a given u b h = refl
  stored_before (suc k) a given u b h =
      stored_before k (next a) (drop p.size given) (storing a (take p.size given) u) b (omega arith)
      ∙ stored_apart a (take p.size given) u b (omega arith)

  -- what was stored is held
  pub held_stored : (k : ℕ) (a : Lba) (given : List ℕ) (u : Disk) → held_from k a (stored_from k a given u) ≡ pieces k given
  unfolding held_from stored_from pieces
  held_stored zero a given u = refl
  held_stored (suc k) a given u =
      let v = storing a (take p.size given) u in
      ap₂ {C = List (List ℕ)} (λ x xs. x ∷ xs)
      (stored_before k (next a) (drop p.size given) v a (omega arith) ∙ stored_same a (take p.size given) u)
      (held_stored k (next a) (drop p.size given) v)

  -- ---- k sectors that pass are done, and m more are to come
  shift : {A : Type 0} (f : Lba → A) (a : Lba) (i : ℕ) → f (further (next a) i) ≡ f (further a (suc i))
  shift f a i = ap f (further_next a i)

  first_says : (a : Lba) (u : Disk) → says u (further a 0) ≡ Passed → says u a ≡ Passed
  first_says a u e = rw (add-zero a.0) at e

  read_goes : (k m : ℕ) (a : Lba) (u : Disk) → ((i : ℕ) → i < k → says u (further a i) ≡ Passed)
      → read_from p (k + m) a u ≡ before (held_from k a u) (read_from p m (further a k) u)
  unfolding read_from held_from
  read_goes zero m a u h =
      let e : 0 + m ≡ m = omega arith in
      rw (e, add-zero a.0) (sym (before_none (read_from p m a u)))
  read_goes (suc k) m a u h =
      let e : suc k + m ≡ suc (k + m) = omega arith in
      rw (e, ← shift (λ (b : Lba). read_from p m b u) a k)
      (passes _ u _ (first_says a u (h 0 (omega arith)))
      ∙ ap (with_first (u.held a)) (read_goes k m (next a) u (λ i l. shift (says u) a i ∙ h (suc i) (omega arith)))
      ∙ before_first (u.held a) (held_from k (next a) u) (read_from p m (further (next a) k) u))

  write_goes : (k m : ℕ) (a : Lba) (given : List ℕ) (u : Disk) → ((i : ℕ) → i < k → says u (further a i) ≡ Passed)
      → write_from p (k + m) a given u ≡ before (pieces k given) (write_from p m (further a k) (drop (k * p.size) given) (stored_from k a given u))
  unfolding write_from pieces stored_from
  write_goes zero m a given u h =
      let e : 0 + m ≡ m = omega arith in
      let z : 0 * p.size ≡ 0 = zero-mul p.size in
      rw (e, z, add-zero a.0) (sym (before_none (write_from p m a given u)))
  write_goes (suc k) m a given u h =
      let e : suc k + m ≡ suc (k + m) = omega arith in
      let v = storing a (take p.size given) u in
      let rest = drop p.size given in
      let z : p.size + k * p.size ≡ suc k * p.size = omega arith in
      let d : drop (k * p.size) rest ≡ drop (suc k * p.size) given = drop-drop (k * p.size) p.size given ∙ ap (λ (i : ℕ). drop i given) z in
      rw (e, ← shift (λ (b : Lba). write_from p m b (drop (suc k * p.size) given) (stored_from k (next a) rest v)) a k, ← d)
      (passes _ u _ (first_says a u (h 0 (omega arith)))
      ∙ ap (with_first (take p.size given))
      (write_goes k m (next a) rest v (λ i l. says_stored a (further (next a) i) (take p.size given) u ∙ shift (says u) a i ∙ h (suc i) (omega arith)))
      ∙ before_first (take p.size given) (pieces k rest) (write_from p m (further (next a) k) (drop (k * p.size) rest) (stored_from k (next a) rest v)))

  -- ---- Where every sector passes, all are read as held, and written as given
  to_the_end : (sectors : List (List ℕ)) (end : Verdict) (u : Disk) → before sectors (finished end u) ≡ record { sectors = sectors; end = end; disk = u }
  unfolding before finished
  to_the_end sectors end u = ap (λ (s : List (List ℕ)). record { sectors = s; end = end; disk = u }) (append-nil sectors)

  pub read_all_lem : (n : ℕ) (a : Lba) (u : Disk) → ((i : ℕ) → i < n → says u (further a i) ≡ Passed)
      → read_from p n a u ≡ record { sectors = held_from n a u; end = Passed; disk = u }
  unfolding read_from
  read_all_lem n a u h = rw add-zero at (read_goes n 0 a u h) ∙ to_the_end (held_from n a u) Passed u

  pub write_all_lem : (n : ℕ) (a : Lba) (given : List ℕ) (u : Disk) → ((i : ℕ) → i < n → says u (further a i) ≡ Passed)
      → write_from p n a given u ≡ record { sectors = pieces n given; end = Passed; disk = stored_from n a given u }
  unfolding write_from
  write_all_lem n a given u h = rw add-zero at (write_goes n 0 a given u h) ∙ to_the_end (pieces n given) Passed (stored_from n a given u)

  -- ---- The first that does not pass ends it: those before it are done, it is not
  module _ (k n : ℕ) (a : Lba) (u : Disk) (less : k < n) (good : (i : ℕ) → i < k → says u (further a i) ≡ Passed)
      (code : ℕ) (at : Lba) (fault : says u (further a k) ≡ Faulty code at) where
    left : k + suc (n - suc k) ≡ n
    left = omega arith

    pub read_stops : read_from p n a u ≡ record { sectors = held_from k a u; end = Faulty code at; disk = u }
    unfolding read_from
    read_stops =
        ap (λ (i : ℕ). read_from p i a u) (sym left) ∙ read_goes k (suc (n - suc k)) a u good
        ∙ ap (before (held_from k a u)) (stops _ u _ code at fault) ∙ to_the_end (held_from k a u) (Faulty code at) u

    pub write_stops : (given : List ℕ) → write_from p n a given u ≡ record { sectors = pieces k given; end = Faulty code at; disk = stored_from k a given u }
    unfolding write_from
    write_stops given =
        let v = stored_from k a given u in
        ap (λ (i : ℕ). write_from p i a given u) (sym left) ∙ write_goes k (suc (n - suc k)) a given u good
        ∙ ap (before (pieces k given)) (stops _ v _ code at (says_kept k a given u (further a k) ∙ fault)) ∙ to_the_end (pieces k given) (Faulty code at) v
