-- Of a list whose calls are in turn, drive d hears and has what the calls that concern it make alone; so two lists with the same such
-- calls are the same to it.
use Prim.Native.Nat.{ℕ, ◌<◌}
use mathlib.Core.Path.{◌≡◌, refl, sym, ap, ap₂, ◌∙◌}
use mathlib.Core.Bool.{Bool, true, false}
use mathlib.Core.List.{List, [], ◌∷◌}
use Rattle.base.proofs.Bools.{both_true}
use Rattle.base.proofs.Decide.{pick_true, pick-false}
use Rattle.model.specs.Claim.{System, Call, left_by, called, engine_at_end, begin}
use Rattle.model.specs.Separation.{concerns, calls_of, heard_of, heard, own_of, SameFor, SeparationWhere}
use Rattle.model.specs.Turns.{clean_after, in_its_turn, in_turns}
use Rattle.model.proofs.separation.Alike.{Alike, begin_alike}
use Rattle.model.proofs.separation.Calls.{apart_alike, call_alike}

-- ---- A list from one system, beside the calls of it that concern drive d, alone, from another
abbrev Beside : (d : ℕ) (s₁ s₂ : System) (calls : List Call) → Type 0
Beside d s₁ s₂ calls =
    (heard d s₁ calls ≡ heard d s₂ (calls_of d calls)) × (own_of d (engine_at_end s₁ calls) ≡ own_of d (engine_at_end s₂ (calls_of d calls)))

module _ (d : ℕ) (call : Call) (calls : List Call) (s₁ s₂ : System) where
  own_beside : concerns d call ≡ true → heard_of (left_by s₁ call) ≡ heard_of (left_by s₂ call)
      → Beside d (called s₁ call).1 (called s₂ call).1 calls → Beside d s₁ s₂ (call ∷ calls)
  unfolding heard calls_of engine_at_end
  own_beside on same later =
      let ours : calls_of d (call ∷ calls) ≡ call ∷ calls_of d calls = pick_true _ _ _ on in
      rw ours (pick_true _ _ _ on ∙ ap₂ ◌∷◌ same later.0 ∙ sym (pick_true _ _ _ on), later.1)

  other_beside : concerns d call ≡ false → Beside d (called s₁ call).1 s₂ calls → Beside d s₁ s₂ (call ∷ calls)
  unfolding heard calls_of engine_at_end
  other_beside off later =
      let theirs : calls_of d (call ∷ calls) ≡ calls_of d calls = pick-false _ _ _ off in
      rw theirs (pick-false _ _ _ off ∙ later.0, later.1)

abbrev AllBeside : (d : ℕ) (calls : List Call) → Type 0
AllBeside d calls = (clean : Bool) (s₁ s₂ : System) → in_turns d clean calls ≡ true → Alike d clean s₁ s₂ → Beside d s₁ s₂ calls

one_beside : (d : ℕ) → d < 4 → (call : Call) (calls : List Call) → AllBeside d calls → AllBeside d (call ∷ calls)
unfolding in_turns
one_beside d h call calls rest clean s₁ s₂ fair alike = by (concerns d call) refl
  where
    both : (in_its_turn d clean call ≡ true) × (in_turns d (clean_after d clean call) calls ≡ true)
    both = both_true (in_its_turn d clean call) _ fair

    by : (on : Bool) → concerns d call ≡ on → Beside d s₁ s₂ (call ∷ calls)
    by true on =
        let now = call_alike d h clean s₁ s₂ call on both.0 alike in
        own_beside d call calls s₁ s₂ on now.heard (rest _ _ _ both.1 now.alike)
    by false off =
        other_beside d call calls s₁ s₂ off (rest _ _ s₂ both.1 (apart_alike d clean s₁ s₂ call off alike))

beside : (d : ℕ) → d < 4 → (calls : List Call) → AllBeside d calls
unfolding heard calls_of engine_at_end
beside d h [] = λ clean s₁ s₂ fair alike. (refl, alike.own)
beside d h (call ∷ calls) = one_beside d h call calls (beside d h calls)

-- ---- Two lists: drives are apart wherever fair lists are in turns
pub separated_where : (fair : (d : ℕ) → List Call → Bool) → ((d : ℕ) (calls : List Call) → fair d calls ≡ true → in_turns d true calls ≡ true)
    → SeparationWhere fair
unfolding SeparationWhere SameFor
separated_where fair turns d h images₁ images₂ same calls₁ calls₂ own fair₁ fair₂ =
    let one = beside d h calls₁ true (begin images₁) (begin images₂) (turns d calls₁ fair₁) (begin_alike d h images₁ images₂ same) in
    let two = beside d h calls₂ true (begin images₂) (begin images₂) (turns d calls₂ fair₂) (begin_alike d h images₂ images₂ refl) in (
      one.0 ∙ ap (heard d (begin images₂)) own ∙ sym two.0,
      one.1 ∙ ap (λ (calls : List Call). own_of d (engine_at_end (begin images₂) calls)) own ∙ sym two.1,
    )
