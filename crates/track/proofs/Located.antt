-- Where a sector that is found lies, that no two share a slot, and what codes say that one is not found.
use mathlib.Core.Path.{◌≡◌, refl, sym, ap, ◌∙◌}
use mathlib.Core.Bool.{Bool, true, false}
use mathlib.Core.Option.{Option, none, some}
use mathlib.Core.List.{List}
use Prim.Native.Nat.{ℕ, ◌<◌}
use native.Mathlib.Omega.{arith}
use lib.Dec.{eqb}
use Rattle.base.specs.Pick.{pick}
use Rattle.base.proofs.Decide.{pick_true, pick-false}
use Rattle.geometry.specs.declared.params.Params.{Params}
use Rattle.geometry.specs.declared.params.Track.{Track}
use Rattle.geometry.specs.Params.{track_count}
use Rattle.geometry.proofs.Addresses.{same_track}
use Rattle.track.specs.declared.id.Id.{Id}
use Rattle.track.specs.Find.{Where}
use Rattle.track.specs.Find.{On, Off}
use Rattle.track.specs.Find.{Slot, Fault}
use Rattle.track.specs.Image.{track_bytes, first_id}
use Rattle.track.specs.Find.{taken_by, where_by, where_of, holds, slot_used, sector_in, sector_from, sector_found}
use Rattle.track.proofs.Takens.{taken_flag}
use Rattle.track.proofs.Finds.{where_in, off_on, on_same, where_has}
use Rattle.track.proofs.Used.{used_holds, used_first, holds_one}

-- ---- sectors told apart
slot_fault : (u : Track) (k code : ℕ) → Slot u k ≡ Fault code → ⊥
slot_fault u k code e = let z : ◌≡◌ {A = ℕ} 0 1 = cc in omega arith

slot_track : (u v : Track) (k j : ℕ) → Slot u k ≡ Slot v j → u ≡ v
slot_track u v k j e = cc

slot_number : (u v : Track) (k j : ℕ) → Slot u k ≡ Slot v j → k ≡ j
slot_number u v k j e = cc

fault_code : (c d : ℕ) → Fault c ≡ Fault d → c ≡ d
fault_code c d e = cc

-- ---- a slot of a track of the drive
module _ (p : Params) (s : ℕ) (image : List ℕ) (u : Track) (k : ℕ) where
  in_slot : (v : Track) (o : Option ℕ) → sector_in v o ≡ Slot u k → (v ≡ u) × (o ≡ some k)
  unfolding sector_in
  in_slot v none e = absurd (slot_fault u k _ (sym e))
  in_slot v (some j) e = (slot_track v u j k e, ap some (slot_number v u j k e))

  -- the search goes on in the slot's track, and the slot is the one used there
  from_slot : (w : Where) → sector_from p s image w ≡ Slot u k → (w ≡ On u) × (slot_used p s (track_bytes p u image) ≡ some k)
  unfolding sector_from
  from_slot (Off code) e = absurd (slot_fault u k code (sym e))
  from_slot (On v) e =
      let r = in_slot v (slot_used p s (track_bytes p v image)) e in
      (ap On r.0, ap (λ (x : Track). slot_used p s (track_bytes p x image)) (sym r.0) ∙ r.1)

-- ---- sector s of track t is found in slot k of track u
module _ (p : Params) (t : Track) (s : ℕ) (image : List ℕ) (u : Track) (k : ℕ) (e : sector_found p t s image ≡ Slot u k) where
  -- the search goes on in track u, and slot k is the one used there
  pub located_there : (where_of p t image ≡ On u) × (slot_used p s (track_bytes p u image) ≡ some k)
  unfolding sector_found
  located_there = from_slot p s image u k (where_of p t image) e

  -- a slot of a track of the drive
  pub located_in : t.0 < track_count p → (u.0 < track_count p) × (k < p.sectors)
  located_in h =
      let r = located_there in
      (where_in p t image (where_of p t image) refl h u r.0, (used_holds p s (track_bytes p u image) k r.1).0)

  -- of the slots that hold one sector the first is found
  pub located_first : (j r : ℕ) → j < k → holds p r (track_bytes p u image) k ≡ true → holds p r (track_bytes p u image) j ≡ false
  located_first j r l h =
      let bytes = track_bytes p u image in
      let used = located_there.1 in
      rw (holds_one p r s bytes k h (used_holds p s bytes k used).1) (used_first p s bytes k used j l)

-- ---- the code of a sector that is not found is not 0, and below 80h
abbrev pub Code : ℕ → Type 0
Code c = (0 < c) × (c < 0x80)

abbrev Coded : Where → Type 0
Coded w = (c : ℕ) → w ≡ Off c → Code c

on_off : (u : Track) (c : ℕ) → On u ≡ Off c → ⊥
on_off u c e = let z : ◌≡◌ {A = ℕ} 0 1 = cc in omega arith

off_same : (c d : ℕ) → Off c ≡ Off d → c ≡ d
off_same c d e = cc

coded_off : (d : ℕ) → Code d → Coded (Off d)
coded_off d h c e = let z : d ≡ c = off_same d c e in (omega arith, omega arith)

coded_on : (u : Track) → Coded (On u)
coded_on u c e = absurd (on_off u c e)

coded_pick : (b : Bool) (x y : Where) → Coded x → Coded y → Coded (pick b x y)
unfolding pick
coded_pick true x y hx hy = hx
coded_pick false x y hx hy = hy

coded_by : (t : Track) (id : Id) (own taken : Bool) → Coded (where_by t id own taken)
unfolding where_by
coded_by t id own taken =
    coded_pick _ _ _ (coded_off _ (omega arith, omega arith))
    (coded_pick _ _ _ (coded_off _ (omega arith, omega arith))
    (coded_pick _ _ _ (coded_off _ (omega arith, omega arith))
    (coded_pick _ _ _ (coded_off _ (omega arith, omega arith))
    (coded_pick _ _ _ (coded_off _ (omega arith, omega arith))
    (coded_pick _ _ _ (coded_pick _ _ _ (coded_on _) (coded_off _ (omega arith, omega arith)))
    (coded_on t))))))

in_fault : (u : Track) (o : Option ℕ) (c : ℕ) → sector_in u o ≡ Fault c → Code c
unfolding sector_in
in_fault u none c e = let z : 0x14 ≡ c = fault_code 0x14 c e in (omega arith, omega arith)
in_fault u (some j) c e = absurd (slot_fault u j c e)

module _ (p : Params) (t : Track) (s : ℕ) (image : List ℕ) where
  from_fault : (w : Where) → Coded w → (c : ℕ) → sector_from p s image w ≡ Fault c → Code c
  unfolding sector_from
  from_fault (Off d) h c e = h c (ap Off (fault_code d c e))
  from_fault (On u) h c e = in_fault u (slot_used p s (track_bytes p u image)) c e

  pub located_code : (c : ℕ) → sector_found p t s image ≡ Fault c → Code c
  unfolding sector_found where_of
  located_code c e = from_fault (where_of p t image) (coded_by t _ _ _) c e

-- ---- two sectors never share a slot: a track's slot 0 says whose sectors lie in it, and a slot holds one sector
-- with flag 3 its partner's, else its own
unfoldable owner_of : Track → Id → Track
owner_of u id = pick (eqb id.flag 3) id.partner u

owner_taken : (p : Params) (t u : Track) (id : Id) → taken_by p t u id ≡ true → owner_of u id ≡ t
unfolding owner_of
owner_taken p t u id e = let r = taken_flag p t u id e in pick_true _ _ _ r.0 ∙ same_track id.partner t r.1

owner_self : (u : Track) (id : Id) → eqb id.flag 3 ≡ false → owner_of u id ≡ u
unfolding owner_of
owner_self u id e = pick-false _ _ _ e

-- where the search for a track's sectors goes on, that track is the owner
where_owner : (p : Params) (t u : Track) (image : List ℕ) → where_of p t image ≡ On u → owner_of u (first_id p u image) ≡ t
unfolding where_of
where_owner p t u image e =
    let id = first_id p t image in
    where_has (λ w. w ≡ On u → owner_of u (first_id p u image) ≡ t) t id _ _
    (λ code z. absurd (off_on code u z))
    (λ flag z. let s = on_same t u z in ap (λ (v : Track). owner_of v (first_id p v image)) (sym s) ∙ owner_self t id flag)
    (λ taken z. let s = on_same id.partner u z in
    ap (λ (v : Track). owner_of v (first_id p v image)) (sym s) ∙ owner_taken p t id.partner _ taken)
    e

pub located_apart : (p : Params) (t v : Track) (s r : ℕ) (image : List ℕ) (u : Track) (k : ℕ) → sector_found p t s image ≡ Slot u k
    → sector_found p v r image ≡ Slot u k → (t ≡ v) × (s ≡ r)
located_apart p t v s r image u k es er =
    let x = located_there p t s image u k es in
    let y = located_there p v r image u k er in
    let bytes = track_bytes p u image in (
      sym (where_owner p t u image x.0) ∙ where_owner p v u image y.0,
      holds_one p s r bytes k (used_holds p s bytes k x.1).1 (used_holds p r bytes k y.1).1,
    )
