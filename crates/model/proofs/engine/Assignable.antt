-- What Assign Alternate's own checks have found where all of them pass; and that A can be moved with its contents then, if that is asked.
use Prim.Native.Nat.{ℕ, ◌≤◌, ◌<◌}
use mathlib.Core.Path.{◌≡◌, refl, sym, ap, ◌∙◌}
use mathlib.Core.Logic.{◌⊎◌, inl, inr}
use mathlib.Core.Bool.{true, false, true≢false}
use mathlib.Core.List.{List}
use native.Mathlib.Omega.{arith}
use lib.Dec.{ltb}
use borrow.Author.Tests.{eqb-true, eqb-false, eq-eqb, ne_eqb, ltb-false, le-ltb}
use Rattle.base.proofs.Bools.{or_off, not-false}
use Rattle.base.proofs.Decide.{pick_true, pick-both}
use Rattle.geometry.specs.declared.params.Lba.{Lba}
use Rattle.geometry.specs.declared.params.Track.{Track}
use Rattle.geometry.specs.declared.params.Params.{Params}
use Rattle.geometry.specs.Params.{track_count, track_of, last_address}
use Rattle.geometry.proofs.Addresses.{same_track, track_in}
use Rattle.geometry.proofs.Sizes.{sectors_some}
use Rattle.track.specs.declared.state.State.{State}
use Rattle.track.specs.declared.state.State.TheVariants.{Sound, Bad, Moved, Taken}
use Rattle.track.specs.State.{is_bad, is_moved, is_taken, is_taken_by_other}
use Rattle.track.specs.Image.{Fits}
use Rattle.track.specs.Pair.{state_of}
use Rattle.track.proofs.Laws.{home_state_lem}
use Rattle.contents.proofs.Laws.{NotTaken, FreeFor}
use Rattle.keeping.specs.Keep.{keep_code, Keepable}
use Rattle.keeping.proofs.Laws.{may_keep, keepable_code}
use Rattle.model.specs.declared.block.Block.{Block}
use Rattle.model.specs.Verdicts.{Passed}
use Rattle.model.specs.Block.{keeps}
use Rattle.model.specs.Checks.{judged}
use Rattle.model.specs.Commands.{assign_tests, missing_in}
use Rattle.model.proofs.engine.Judged.{passed_on, judged_on, judged_none}

pub record Assignable (p : Params) (a alternate : Lba) (state_a state_b : State) (missing : ℕ) : Type 0 where
  pub on_drive_lem : alternate.0 ≤ (last_address p).0
  pub unmoved : is_moved state_a ≡ false
  pub untaken : is_taken state_a ≡ false
  pub another : (track_of p alternate).0 ≡ (track_of p a).0 → ⊥
  pub free : is_taken_by_other (track_of p a) state_b ≡ false
  pub fitting : (is_moved state_b ≡ false) × (is_bad state_b ≡ false)
  pub none_missing : missing ≡ 0

pub assignable : (p : Params) (first : ℕ) (a alternate : Lba) (state_a state_b : State) (missing : ℕ)
    → judged (assign_tests p first a alternate state_a state_b missing) ≡ Passed → Assignable p a alternate state_a state_b missing
unfolding assign_tests
assignable p first a alternate state_a state_b missing e =
    let t₁ = passed_on _ _ _ _ e in
    let t₂ = passed_on _ _ _ _ t₁.1 in
    let t₃ = passed_on _ _ _ _ t₂.1 in
    let t₄ = passed_on _ _ _ _ t₃.1 in
    let t₅ = passed_on _ _ _ _ t₄.1 in
    let t₆ = passed_on _ _ _ _ t₅.1 in
    let t₇ = passed_on _ _ _ _ t₆.1 in
    let t₈ = passed_on _ _ _ _ t₇.1 in
    record {
      on_drive_lem = ltb-false _ _ t₂.0;
      unmoved = t₃.0;
      untaken = t₄.0;
      another = eqb-false _ _ t₅.0;
      free = t₆.0;
      fitting = or_off _ _ t₇.0;
      none_missing = eqb-true _ _ (not-false _ t₈.0);
    }

-- and the other way
pub first_low : (p : Params) (first : ℕ) (a alternate : Lba) (state_a state_b : State) (missing : ℕ)
    → judged (assign_tests p first a alternate state_a state_b missing) ≡ Passed → ltb 0x1F first ≡ false
unfolding assign_tests
first_low p first a alternate state_a state_b missing e = (passed_on _ _ _ _ e).0

pub assign_passes : (p : Params) (first : ℕ) (a alternate : Lba) (state_a state_b : State) (missing : ℕ) → ltb 0x1F first ≡ false
    → Assignable p a alternate state_a state_b missing → judged (assign_tests p first a alternate state_a state_b missing) ≡ Passed
unfolding assign_tests
assign_passes p first a alternate state_a state_b missing low r =
    judged_on _ _ _ low ∙ judged_on _ _ _ (le-ltb _ _ r.on_drive_lem) ∙ judged_on _ _ _ r.unmoved ∙ judged_on _ _ _ r.untaken
    ∙ judged_on _ _ _ (ne_eqb _ _ r.another) ∙ judged_on _ _ _ r.free ∙ judged_on _ _ _ (rw (r.fitting.0, r.fitting.1))
    ∙ judged_on _ _ _ (rw r.none_missing) ∙ judged_none

-- ---- a state by what it is not
pub not_taken : (p : Params) (t : Track) (image : List ℕ) → is_taken (state_of p t image) ≡ false → NotTaken p t image
unfolding is_taken
not_taken p t image e u is = true≢false (sym (ap is_taken is) ∙ e)

unmoved_state : (state : State) (u : Track) → is_moved state ≡ false → state ≡ Moved u → ⊥
unfolding is_moved
unmoved_state state u off e = true≢false (sym (ap is_moved e) ∙ off)

other_state : (t : Track) (state : State) (u : Track) → is_taken_by_other t state ≡ false → state ≡ Taken u → u.0 ≡ t.0
unfolding is_taken_by_other
other_state t state u off e = eqb-true _ _ (not-false _ (sym (ap (is_taken_by_other t) e) ∙ off))

free_state : (t : Track) (state : State) → is_taken_by_other t state ≡ false → is_moved state ≡ false → is_bad state ≡ false → (state ≡ Sound) ⊎ (state ≡ Taken t)
unfolding is_moved is_bad
free_state t Sound off m b = inl refl
free_state t Bad off m b = absurd (true≢false b)
free_state t (Moved u) off m b = absurd (true≢false m)
free_state t (Taken u) off m b = inr (ap Taken (same_track u t (other_state t (Taken u) u off refl)))

-- ---- of the tracks of an image
module _ (p : Params) (image : List ℕ) (fit : Fits p image) (a alternate : Lba) (missing : ℕ)
    (r : Assignable p a alternate (state_of p (track_of p a) image) (state_of p (track_of p alternate) image) missing) where
  pub alternate_in : (track_of p alternate).0 < track_count p
  alternate_in = track_in p fit.within alternate (omega (arith, r.on_drive_lem, sectors_some p fit.within))

  pub first_free : NotTaken p (track_of p a) image
  first_free = not_taken p (track_of p a) image r.untaken

  pub second_free : FreeFor p (track_of p a) (track_of p alternate) image
  second_free u e = other_state (track_of p a) _ u r.free e

  -- nothing is missing in A: it can be moved with its contents
  pub keepable : (track_of p a).0 < track_count p → keep_code p (track_of p a) image ≡ 0 → Keepable p (track_of p a) (track_of p alternate) image
  keepable h code =
      may_keep p (track_of p a) (track_of p alternate) image fit h alternate_in (λ e. r.another (sym e))
      (free_state (track_of p a) _ r.free r.fitting.0 r.fitting.1) (λ u e. unmoved_state _ u r.unmoved e) code

-- ---- A that can be moved to B with its contents passes
module _ (b : Block) (p : Params) (a alternate : Lba) (image : List ℕ) (may : Keepable p (track_of p a) (track_of p alternate) image) where
  sound_unmoved : (state : State) → state ≡ Sound → (is_moved state ≡ false) × (is_taken state ≡ false)
  unfolding is_moved is_taken
  sound_unmoved state e = (rw e, rw e)

  free_fits : (state : State) → (state ≡ Sound) ⊎ (state ≡ Taken (track_of p a)) → (is_taken_by_other (track_of p a) state ≡ false) × (is_moved state ≡ false) × (is_bad state ≡ false)
  unfolding is_taken_by_other is_moved is_bad
  free_fits state (inl e) = (rw e, rw e, rw e)
  free_fits state (inr e) = (rw (e, eq-eqb (track_of p a).0 (track_of p a).0 refl), rw e, rw e)

  pub kept_passes : alternate.0 ≤ (last_address p).0
      → Assignable p a alternate (state_of p (track_of p a) image) (state_of p (track_of p alternate) image) (missing_in b p (track_of p a) image)
  unfolding missing_in
  kept_passes h =
      let one = sound_unmoved _ (home_state_lem p (track_of p a) image may.home) in
      let other = free_fits _ may.free in
      record {
        on_drive_lem = h;
        unmoved = one.0;
        untaken = one.1;
        another = λ e. may.apart (sym e);
        free = other.0;
        fitting = (other.1, other.2);
        none_missing = pick-both (λ (n : ℕ). n ≡ 0) (keeps b) _ _ (keepable_code p (track_of p a) (track_of p alternate) image may) refl;
      }

-- with keep the code asked for is A's
pub missing_kept : (b : Block) (p : Params) (A : Track) (image : List ℕ) → keeps b ≡ true → missing_in b p A image ≡ 0 → keep_code p A image ≡ 0
unfolding missing_in
missing_kept b p A image k e = sym (pick_true _ _ _ k) ∙ e
