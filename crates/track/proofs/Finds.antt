-- Laws of finding a sector: where the search goes on, and where slots lie.
use mathlib.Core.Path.{◌≡◌, refl, sym, ap, ◌∙◌}
use mathlib.Core.Bool.{Bool, true, false}
use mathlib.Core.List.{List}
use Prim.Native.Nat.{ℕ, ◌<◌}
use native.Mathlib.Omega.{arith}
use lib.Dec.{eqb}
use borrow.Author.Tests.{ne_eqb}
use Rattle.base.specs.Pick.{pick}
use Rattle.geometry.specs.declared.params.Params.{Params}
use Rattle.geometry.specs.declared.params.Track.{Track}
use Rattle.geometry.specs.Params.{track_count}
use Rattle.track.specs.declared.id.Id.{Id}
use Rattle.track.specs.Find.{Where}
use Rattle.track.specs.Find.{On, Off}
use Rattle.track.specs.Id.{own_id}
use Rattle.track.specs.Image.{first_id}
use Rattle.track.specs.Find.{taken_by, where_by, where_of}
use Rattle.track.proofs.Takens.{taken_in_lem}

-- ---- where the search goes on
pub where_from : (p : Params) (t : Track) (image : List ℕ) (id : Id) (own taken : Bool) → id ≡ first_id p t image → own ≡ own_id p t id
    → taken ≡ taken_by p t id.partner (first_id p id.partner image) → where_by t id own taken ≡ where_of p t image
unfolding where_of
where_from p t image id own taken ei eo et = rw (eo, et, ei)

-- without flag 2 the partner is not asked for
pub where_unmoved : (p : Params) (t : Track) (image : List ℕ) (id : Id) (own : Bool) → id ≡ first_id p t image → own ≡ own_id p t id
    → (id.flag ≡ 2 → ⊥) → where_by t id own false ≡ where_of p t image
unfolding where_of where_by pick
where_unmoved p t image id own ei eo ne = rw (← ei, eo, ne_eqb id.flag 2 ne)

pub off_on : (code : ℕ) (u : Track) → Off code ≡ On u → ⊥
off_on code u e = let z : ◌≡◌ {A = ℕ} 0 1 = cc in omega arith

pub on_same : (t u : Track) → On t ≡ On u → t ≡ u
on_same t u e = cc

-- the track, where there is one, is below a count
abbrev Below : ℕ → Where → Type 0
Below count w = (u : Track) → w ≡ On u → u.0 < count

below_off : (count code : ℕ) → Below count (Off code)
below_off count code u e = absurd (off_on code u e)

below_on : (count : ℕ) (t : Track) → t.0 < count → Below count (On t)
below_on count t h u e = let z : t.0 ≡ u.0 = ap (λ (v : Track). v.0) (on_same t u e) in omega arith

below_pick : (count : ℕ) (b : Bool) (x y : Where) → (b ≡ true → Below count x) → Below count y → Below count (pick b x y)
unfolding pick
below_pick count true x y hx hy = hx refl
below_pick count false x y hx hy = hy

below_by : (count : ℕ) (t : Track) (id : Id) (own taken : Bool) → t.0 < count → (taken ≡ true → id.partner.0 < count) → Below count (where_by t id own taken)
unfolding where_by
below_by count t id own taken h k =
    below_pick count _ _ _ (λ e. below_off count _)
    (below_pick count _ _ _ (λ e. below_off count _)
    (below_pick count _ _ _ (λ e. below_off count _)
    (below_pick count _ _ _ (λ e. below_off count _)
    (below_pick count _ _ _ (λ e. below_off count _)
    (below_pick count _ _ _ (λ e. below_pick count taken _ _ (λ e'. below_on count id.partner (k e')) (below_off count _))
    (below_on count t h))))))

pub where_in : (p : Params) (t : Track) (image : List ℕ) (w : Where) → w ≡ where_of p t image → t.0 < track_count p → (u : Track) → w ≡ On u → u.0 < track_count p
unfolding where_of
where_in p t image w ew h u e =
    let id : Id = first_id p t image in
    below_by (track_count p) t id _ _ h (λ k. taken_in_lem p t id.partner _ k) u (sym ew ∙ e)

-- ---- what holds of where the search goes on: at an error, on the track itself, on its partner
pick_has : (P : Where → Type 0) (b : Bool) (x y : Where) → (b ≡ true → P x) → (b ≡ false → P y) → P (pick b x y)
unfolding pick
pick_has P true x y hx hy = hx refl
pick_has P false x y hx hy = hy refl

pub where_has : (P : Where → Type 0) (t : Track) (id : Id) (own taken : Bool) → ((code : ℕ) → P (Off code))
    → (eqb id.flag 3 ≡ false → P (On t)) → (taken ≡ true → P (On id.partner)) → P (where_by t id own taken)
unfolding where_by
where_has P t id own taken off here there =
    pick_has P _ _ _ (λ e. off _) (λ e.
    pick_has P _ _ _ (λ e. off _) (λ e.
    pick_has P _ _ _ (λ e. off _) (λ e.
    pick_has P _ _ _ (λ e. off _) (λ e.
    pick_has P _ _ _ (λ e. off _) (λ z.
    pick_has P _ _ _ (λ e. pick_has P taken _ _ there (λ e. off _)) (λ e.
    here z))))))
