-- When a track is taken by another: what its slot 0 says, how the format commands see it, and when it is so after a format.
use mathlib.Core.Path.{◌≡◌, refl, sym, ap, ◌∙◌}
use mathlib.Core.Bool.{Bool, true, false, and-false, false≢true}
use mathlib.Core.List.{List}
use Prim.Native.Nat.{ℕ, ◌<◌}
use native.Mathlib.Omega.{arith}
use lib.Dec.{eqb, ltb}
use borrow.Author.Tests.{eqb-true, ltb-true}
use Rattle.base.specs.Pick.{pick}
use Rattle.geometry.specs.declared.params.Params.{Params}
use Rattle.geometry.specs.declared.params.Track.{Track}
use Rattle.geometry.specs.Params.{track_count}
use Rattle.geometry.proofs.Addresses.{same_track}
use Rattle.track.specs.declared.id.Id.{Id}
use Rattle.track.specs.declared.state.State.{State}
use Rattle.track.specs.declared.state.State.TheVariants.{Sound, Bad, Moved, Taken}
use Rattle.track.specs.Id.{id_for, own_id}
use Rattle.track.specs.State.{flag_of, partner_of}
use Rattle.track.specs.Image.{first_id}
use Rattle.track.specs.Find.{taken_by}
use Rattle.track.specs.Pair.{state_by, state_of}

-- ---- a track is taken by another if each test holds
module _ (p : Params) (t u : Track) (id : Id) where
  -- it is one of the drive's
  pub taken_past : ltb u.0 (track_count p) ≡ false → taken_by p t u id ≡ false
  unfolding taken_by
  taken_past h = simp h

  -- its slot 0 has A1h
  taken_unmarked : eqb id.mark 0xA1 ≡ false → taken_by p t u id ≡ false
  unfolding taken_by
  taken_unmarked h = simp (h, and-false)

  -- its own cylinder and head
  taken_not_own : own_id p u id ≡ false → taken_by p t u id ≡ false
  unfolding taken_by
  taken_not_own h = simp (h, and-false)

  -- flag 3
  taken_unflagged : eqb id.flag 3 ≡ false → taken_by p t u id ≡ false
  unfolding taken_by
  taken_unflagged h = simp (h, and-false)

  -- and partner t
  taken_elsewhere : eqb id.partner.0 t.0 ≡ false → taken_by p t u id ≡ false
  unfolding taken_by
  taken_elsewhere h = simp (h, and-false)

-- a test without which another fails holds where the other does
needed : (a b : Bool) → (a ≡ false → b ≡ false) → b ≡ true → a ≡ true
needed true b h e = refl
needed false b h e = absurd (false≢true (sym (h refl) ∙ e))

-- ---- a track that is taken by another
module _ (p : Params) (t u : Track) (id : Id) (e : taken_by p t u id ≡ true) where
  -- is a track of the drive
  pub taken_in_lem : u.0 < track_count p
  taken_in_lem = ltb-true _ _ (needed _ _ (taken_past p t u id) e)

  -- its slot 0 has A1h, its own cylinder and head,
  pub taken_tests : (eqb id.mark 0xA1 ≡ true) × (own_id p u id ≡ true)
  taken_tests = (needed _ _ (taken_unmarked p t u id) e, needed _ _ (taken_not_own p t u id) e)

  -- flag 3, and names the other
  pub taken_flag : (eqb id.flag 3 ≡ true) × (id.partner.0 ≡ t.0)
  taken_flag = (needed _ _ (taken_unflagged p t u id) e, eqb-true _ _ (needed _ _ (taken_elsewhere p t u id) e))

-- the format commands see it as taken too
pub state_taken : (p : Params) (t u : Track) (image : List ℕ) → taken_by p t u (first_id p u image) ≡ true → state_of p u image ≡ Taken t
unfolding state_of state_by pick
state_taken p t u image e =
    let id = first_id p u image in
    let tests = taken_tests p t u id e in
    let flag = taken_flag p t u id e in
    let three : id.flag ≡ 3 = eqb-true _ _ flag.0 in
    rw (tests.0, tests.1, three) (ap Taken (same_track id.partner t flag.1))

-- ---- a track whose slot 0 is that of a format is taken only where it was formatted as taken
flag_taken : (state : State) (t : Track) → flag_of state ≡ 3 → (partner_of state).0 ≡ t.0 → state ≡ Taken t
unfolding flag_of partner_of
flag_taken Sound t f e = absurd (omega arith)
flag_taken Bad t f e = absurd (omega arith)
flag_taken (Moved u) t f e = absurd (omega arith)
flag_taken (Taken u) t f e = ap Taken (same_track u t e)

for_flag : (p : Params) (u : Track) (state : State) (s : ℕ) → ((id_for p u state s).flag ≡ flag_of state) × ((id_for p u state s).partner ≡ partner_of state)
unfolding id_for
for_flag p u state s = (refl, refl)

-- `id` is what its slot 0 says
pub taken_made : (p : Params) (u : Track) (state : State) (s : ℕ) (id : Id) → id ≡ id_for p u state s → (t : Track) → taken_by p t u id ≡ true → state ≡ Taken t
taken_made p u state s id made t e =
    let r = taken_flag p t u id e in
    let is = for_flag p u state s in
    flag_taken state t
    (sym (ap (λ (i : Id). i.flag) made ∙ is.0) ∙ eqb-true _ _ r.0)
    (ap (λ (v : Track). v.0) (sym (ap (λ (i : Id). i.partner) made ∙ is.1)) ∙ r.1)

-- states told apart
pub taken_one : (t u : Track) → Taken t ≡ Taken u → t.0 ≡ u.0
taken_one t u e = cc

pub sound_taken : (u : Track) → Sound ≡ Taken u → ⊥
sound_taken u e = let z : ◌≡◌ {A = ℕ} 0 1 = cc in omega arith

pub bad_taken : (u : Track) → Bad ≡ Taken u → ⊥
bad_taken u e = let z : ◌≡◌ {A = ℕ} 0 1 = cc in omega arith

pub moved_taken : (v u : Track) → Moved v ≡ Taken u → ⊥
moved_taken v u e = let z : ◌≡◌ {A = ℕ} 0 1 = cc in omega arith
