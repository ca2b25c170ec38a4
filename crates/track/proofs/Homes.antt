-- A track whose sectors lie in its own slots: its slot 0 has flag 0, and the format commands see it as sound.
use mathlib.Core.Path.{◌≡◌, refl, sym, ap, ◌∙◌}
use mathlib.Core.Logic.{◌⊎◌, inl, inr}
use mathlib.Core.Bool.{Bool, true, false, not}
use mathlib.Core.List.{List}
use Prim.Native.Nat.{ℕ, ◌≤◌}
use native.Mathlib.Omega.{arith}
use lib.Dec.{eqb, ltb}
use borrow.Author.Tests.{eqb-true, eqb-false, ltb-false}
use Rattle.base.specs.Pick.{pick}
use Rattle.base.proofs.Bools.{not-false}
use Rattle.geometry.specs.declared.params.Params.{Params}
use Rattle.geometry.specs.declared.params.Track.{Track}
use Rattle.track.specs.declared.id.Id.{Id}
use Rattle.track.specs.declared.state.State.TheVariants.{Sound, Moved}
use Rattle.track.specs.Find.{Where}
use Rattle.track.specs.Find.{On, Off}
use Rattle.track.specs.Id.{own_id}
use Rattle.track.specs.Image.{first_id}
use Rattle.track.specs.Find.{taken_by, where_by, where_of}
use Rattle.track.specs.Pair.{state_by, state_of}
use Rattle.track.proofs.Finds.{off_on, on_same}
use Rattle.track.proofs.Takens.{taken_flag}

pass : (b : Bool) (code : ℕ) (w : Where) (u : Track) → pick b (Off code) w ≡ On u → (b ≡ false) × (w ≡ On u)
unfolding pick
pass true code w u e = absurd (off_on code u e)
pass false code w u e = (refl, e)

-- on the track itself, or on the partner that is taken
stay : (moved taken : Bool) (t v u : Track) → pick moved (pick taken (On v) (Off 0x1E)) (On t) ≡ On u
    → ((moved ≡ false) × (t ≡ u)) ⊎ ((moved ≡ true) × (taken ≡ true) × (v ≡ u))
unfolding pick
stay false taken t v u e = inl (refl, on_same t u e)
stay true true t v u e = inr (refl, refl, on_same v u e)
stay true false t v u e = absurd (off_on 0x1E u e)

-- what slot 0 says where the search goes on in a track
record Goes (t u : Track) (id : Id) (own taken : Bool) : Type 0 where
  pub mark : not (eqb id.mark 0xA1) ≡ false
  pub own_id_lem : not own ≡ false
  pub most : ltb 3 id.flag ≡ false
  pub not_bad : eqb id.flag 1 ≡ false
  pub not_taken : eqb id.flag 3 ≡ false
  pub there : ((eqb id.flag 2 ≡ false) × (t ≡ u)) ⊎ ((eqb id.flag 2 ≡ true) × (taken ≡ true) × (id.partner ≡ u))

goes : (t u : Track) (id : Id) (own taken : Bool) → where_by t id own taken ≡ On u → Goes t u id own taken
unfolding where_by
goes t u id own taken e =
    let a = pass _ _ _ u e in
    let b = pass _ _ _ u a.1 in
    let c = pass _ _ _ u b.1 in
    let d = pass _ _ _ u c.1 in
    let f = pass _ _ _ u d.1 in
    record { mark = a.0; own_id_lem = b.0; most = c.0; not_bad = d.0; not_taken = f.0; there = stay _ taken t id.partner u f.1 }

moved_by : (id : Id) (own : Bool) → not (eqb id.mark 0xA1) ≡ false → not own ≡ false → eqb id.flag 1 ≡ false → eqb id.flag 2 ≡ true
    → state_by id own ≡ Moved id.partner
unfolding state_by pick
moved_by id own m o b f = rw (m, o, b, f)

moved_there : (t u : Track) (id : Id) (own taken : Bool) → Goes t u id own taken → (t ≡ u) ⊎ (state_by id own ≡ Moved u)
moved_there t u id own taken g = by g.there
  where
    by : ((eqb id.flag 2 ≡ false) × (t ≡ u)) ⊎ ((eqb id.flag 2 ≡ true) × (taken ≡ true) × (id.partner ≡ u)) → (t ≡ u) ⊎ (state_by id own ≡ Moved u)
    by (inl r) = inl r.1
    by (inr r) = inr (moved_by id own g.mark g.own_id_lem g.not_bad r.0 ∙ ap Moved r.2)

-- the search goes on in the track itself, or the track is moved there
pub where_state : (p : Params) (t u : Track) (image : List ℕ) → where_of p t image ≡ On u → (t ≡ u) ⊎ (state_of p t image ≡ Moved u)
unfolding where_of state_of
where_state p t u image e =
    let id = first_id p t image in
    moved_there t u id _ _ (goes t u id _ _ e)

-- ---- in the track itself
module _ (p : Params) (t : Track) (image : List ℕ) where
  pub home_parts : where_of p t image ≡ On t → ((first_id p t image).mark ≡ 0xA1) × (own_id p t (first_id p t image) ≡ true) × ((first_id p t image).flag ≡ 0)
  unfolding where_of
  home_parts e =
      let g = goes t t (first_id p t image) _ _ e in
      (eqb-true _ _ (not-false _ g.mark), not-false _ g.own_id_lem, zero_flag g.there (ltb-false _ _ g.most) (eqb-false _ _ g.not_bad) (eqb-false _ _ g.not_taken))
    where
      zero_flag : ((eqb (first_id p t image).flag 2 ≡ false) × (t ≡ t))
          ⊎ ((eqb (first_id p t image).flag 2 ≡ true) × (taken_by p t (first_id p t image).partner (first_id p (first_id p t image).partner image) ≡ true) × ((first_id p t image).partner ≡ t))
          → (first_id p t image).flag ≤ 3 → ((first_id p t image).flag ≡ 1 → ⊥) → ((first_id p t image).flag ≡ 3 → ⊥) → (first_id p t image).flag ≡ 0
      zero_flag (inl r) most one three = let two : (first_id p t image).flag ≡ 2 → ⊥ = eqb-false _ _ r.0 in omega arith
      zero_flag (inr r) most one three =
          let taken : taken_by p t t (first_id p t image) ≡ true = ap (λ (v : Track). taken_by p t v (first_id p v image)) (sym r.2) ∙ r.1 in
          absurd (three (eqb-true _ _ (taken_flag p t t (first_id p t image) taken).0))

  pub home_state_lem : where_of p t image ≡ On t → state_of p t image ≡ Sound
  unfolding state_of state_by pick
  home_state_lem e = let r = home_parts e in rw (r.1, r.0, r.2)

-- and the other way
by_home : (t : Track) (id : Id) (own taken : Bool) → id.mark ≡ 0xA1 → own ≡ true → id.flag ≡ 0 → where_by t id own taken ≡ On t
unfolding where_by pick
by_home t id own taken m o f = rw (m, o, f)

-- it goes by slot 0 alone
pub home_same : (p : Params) (t : Track) (image now : List ℕ) → where_of p t image ≡ On t → first_id p t now ≡ first_id p t image → where_of p t now ≡ On t
unfolding where_of
home_same p t image now e same =
    let r = home_parts p t image e in
    by_home t (first_id p t now) _ _ (ap (λ (id : Id). id.mark) same ∙ r.0) (ap (own_id p t) same ∙ r.1) (ap (λ (id : Id). id.flag) same ∙ r.2)
