-- Laws of pairs: which of two tracks is below a third, the loop over the tracks, and what it means that no pair is split.
use mathlib.Core.Path.{◌≡◌, refl, sym, ap, ◌∙◌}
use mathlib.Core.Bool.{Bool, true, false, ◌||◌, true≢false}
use mathlib.Core.List.{List}
use Prim.Native.Nat.{ℕ, ◌+◌, ◌≤◌, ◌<◌}
use native.Mathlib.Omega.{arith}
use lib.Dec.{eqb, ltb}
use borrow.Author.Tests.{lt-ltb, le-ltb, ne_eqb}
use Rattle.base.specs.Pick.{pick}
use Rattle.base.proofs.Decide.{pick-false, pick-both}
use Rattle.base.proofs.Firsts.{Sought, sought_none, sought_hit, sought_more, sought_all, some_hit, some_none, none_some}
use Rattle.geometry.specs.declared.params.Params.{Params}
use Rattle.geometry.specs.declared.params.Track.{Track}
use Rattle.geometry.specs.Params.{track_count, track}
use Rattle.track.specs.declared.id.Id.{Id}
use Rattle.track.specs.declared.state.State.{State}
use Rattle.track.specs.declared.state.State.TheVariants.{Sound, Bad, Moved, Taken}
use Rattle.track.specs.Image.{first_id}
use Rattle.track.specs.Find.{taken_by}
use Rattle.track.specs.Pair.{state_by, state_of, one_below, splits, pair_split}
use Rattle.track.proofs.Takens.{taken_in_lem, state_taken}

or-false : (b : Bool) → b ≡ (b || false)
or-false true = refl
or-false false = refl

module _ (s t u : Track) (one other : Bool) (eo : one ≡ ltb t.0 s.0) (eu : other ≡ ltb u.0 s.0) where
  pub below_other : one ≡ false → other ≡ one_below s t u
  unfolding one_below
  below_other h = rw (sym eo ∙ h, ← eu)

-- ---- a track with flag 0 or 1 is of no pair
module _ (s t : Track) where
  abbrev Unsplit : State → Type 0
  Unsplit state = splits s t state ≡ false

  sound_unsplit : Unsplit Sound
  unfolding splits
  sound_unsplit = refl

  bad_unsplit : Unsplit Bad
  unfolding splits
  bad_unsplit = refl

  module _ (id : Id) (h : id.flag < 2) where
    low_unsplit : (own : Bool) → Unsplit (state_by id own)
    unfolding state_by
    low_unsplit own =
        let sound : pick (eqb id.flag 2) (Moved id.partner) (pick (eqb id.flag 3) (Taken id.partner) Sound) ≡ Sound =
        pick-false _ _ _ (ne_eqb id.flag 2 (λ e. omega arith)) ∙ pick-false _ _ _ (ne_eqb id.flag 3 (λ e. omega arith)) in
        rw sound (pick-both Unsplit _ _ _ sound_unsplit (pick-both Unsplit _ _ _ sound_unsplit (pick-both Unsplit _ _ _ bad_unsplit sound_unsplit)))

    pub low_flag : (p : Params) (image : List ℕ) → id ≡ first_id p t image → false ≡ splits s t (state_of p t image)
    unfolding state_of
    low_flag p image e = rw (← e) (sym (low_unsplit _))

-- ---- the loop: no track before t is of a pair that is split
abbrev split_at : Params → (s : Track) → List ℕ → (k : ℕ) → Bool
split_at p s image k = splits s (track k) (state_of p (track k) image)

abbrev pub Whole : Params → (s : Track) → List ℕ → (t : ℕ) → Type 0
Whole p s image t = Sought (split_at p s image) (track_count p) t

module _ (p : Params) (s : Track) (image : List ℕ) where
  pub whole_none : Whole p s image 0
  whole_none = sought_none _ _

  module _ (t : ℕ) (w : Whole p s image t) where
    module _ (is : Bool) (e : is ≡ split_at p s image t) (h : t < track_count p) where
      pub whole_more : is ≡ false → Whole p s image (t + 1)
      whole_more no-split = sought_more _ _ t w h (sym e ∙ no-split)

      pub whole_hit : is ≡ true → true ≡ pair_split p s image
      unfolding pair_split
      whole_hit a-split = sym (some_hit _ _ t (sought_hit _ _ t w h (sym e ∙ a-split)))

    pub whole_all : track_count p ≤ t → false ≡ pair_split p s image
    unfolding pair_split
    whole_all h = sym (some_none _ _ (sought_all _ _ t w h))

-- ---- where no pair is split, no track from s on is taken by one before it
pub whole_pairs : (p : Params) (s : Track) (image : List ℕ) → pair_split p s image ≡ false → (t u : Track) → t.0 < s.0 → s.0 ≤ u.0
    → taken_by p t u (first_id p u image) ≡ true → ⊥
unfolding pair_split splits
whole_pairs p s image whole t u ht hu e =
    let none : splits s u (state_of p u image) ≡ false = none_some _ _ whole u.0 (taken_in_lem p t u _ e) in
    let is : splits s u (state_of p u image) ≡ ltb t.0 s.0 =
    ap (splits s u) (state_taken p t u image e) ∙ sym (below_other s u t _ _ refl refl (le-ltb u.0 s.0 hu)) in
    true≢false (sym (lt-ltb _ _ ht) ∙ sym is ∙ none)
