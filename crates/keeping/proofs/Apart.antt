-- Where A may be moved to B, none but A has taken either.
use mathlib.Core.Path.{◌≡◌, sym, ◌∙◌}
use mathlib.Core.Logic.{◌⊎◌, inl, inr}
use mathlib.Core.List.{List}
use Prim.Native.Nat.{ℕ}
use native.Mathlib.Omega.{arith}
use borrow.Author.Tests.{eqb-true}
use Rattle.geometry.specs.declared.params.Params.{Params}
use Rattle.geometry.specs.declared.params.Track.{Track}
use Rattle.track.specs.declared.state.State.TheVariants.{Sound, Taken}
use Rattle.track.specs.Image.{first_id}
use Rattle.track.specs.Pair.{state_of}
use Rattle.track.proofs.Laws.{taken_flag, taken_one, sound_taken, home_parts}
use Rattle.contents.proofs.Laws.{Free, free_state}
use Rattle.keeping.specs.Keep.{Keepable}

module _ (p : Params) (from to : Track) (image : List ℕ) (may : Keepable p from to image) where
  pub free_from : Free p from from image
  free_from t ne taken =
      let three : (first_id p from image).flag ≡ 3 = eqb-true _ _ (taken_flag p t from (first_id p from image) taken).0 in
      omega (arith, three, (home_parts p from image may.home).2)

  pub free_to : Free p from to image
  free_to = free_state p from to image (λ t e. by t e may.free)
    where
      by : (t : Track) → state_of p to image ≡ Taken t → (state_of p to image ≡ Sound) ⊎ (state_of p to image ≡ Taken from) → t.0 ≡ from.0
      by t e (inl f) = absurd (sound_taken t (sym f ∙ e))
      by t e (inr f) = taken_one t from (sym e ∙ f)
