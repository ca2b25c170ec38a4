-- Laws of tests judged one after the other.
use mathlib.Core.Path.{◌≡◌, refl}
use mathlib.Core.Bool.{Bool, true, false}
use mathlib.Core.List.{List, [], ◌∷◌}
use Prim.Native.Nat.{ℕ}
use native.Mathlib.Omega.{arith}
use Rattle.base.specs.Pick.{pick}
use Rattle.base.proofs.Decide.{pick_true, pick-false}
use Rattle.geometry.specs.declared.params.Lba.{Lba}
use Rattle.model.specs.Verdicts.{Verdict}
use Rattle.model.specs.Verdicts.{Refused, Faulty, Passed}
use Rattle.model.specs.Checks.{Test, judged}

abbrev test : Bool → Verdict → Test
test hit verdict = record { hit = hit; verdict = verdict }

module _ (hit : Bool) (verdict : Verdict) (tests : List Test) where
  pub judged_hit : hit ≡ true → judged (test hit verdict ∷ tests) ≡ verdict
  unfolding judged
  judged_hit e = pick_true _ _ _ e

  pub judged_on : hit ≡ false → judged (test hit verdict ∷ tests) ≡ judged tests
  unfolding judged
  judged_on e = pick-false _ _ _ e

pub judged_none : judged [] ≡ Passed
unfolding judged
judged_none = refl

-- ---- the other way: what a verdict says of the tests
pub passed_faulty : (k : ℕ) (l : Lba) → Passed ≡ Faulty k l → ⊥
passed_faulty k l e = let z : ◌≡◌ {A = ℕ} 0 1 = cc in omega arith

refused_passed : (n : ℕ) → Refused n ≡ Passed → ⊥
refused_passed n e = let z : ◌≡◌ {A = ℕ} 0 1 = cc in omega arith

refused_faulty : (n k : ℕ) (l : Lba) → Refused n ≡ Faulty k l → ⊥
refused_faulty n k l e = let z : ◌≡◌ {A = ℕ} 0 1 = cc in omega arith

-- where all is passed, no test hits
pub passed_on : (hit : Bool) (code : ℕ) (at : Lba) (tests : List Test) → judged (test hit (Faulty code at) ∷ tests) ≡ Passed
    → (hit ≡ false) × (judged tests ≡ Passed)
unfolding judged pick
passed_on false code at tests e = (refl, e)
passed_on true code at tests e = absurd (let z : ◌≡◌ {A = ℕ} 0 1 = cc in omega arith)

pub not_refused : (hit : Bool) (number : ℕ) (tests : List Test) → judged (test hit (Refused number) ∷ tests) ≡ Passed
    → (hit ≡ false) × (judged tests ≡ Passed)
unfolding judged pick
not_refused false number tests e = (refl, e)
not_refused true number tests e = absurd (refused_passed number e)

-- the code and the address of a fault are a test's
module _ (P : ℕ → Lba → Type 0) (k : ℕ) (l : Lba) where
  pub fault_none : judged [] ≡ Faulty k l → P k l
  unfolding judged
  fault_none e = absurd (passed_faulty k l e)

  pub fault_in : (hit : Bool) (code : ℕ) (at : Lba) (tests : List Test) → P code at → (hit ≡ false → judged tests ≡ Faulty k l → P k l)
      → judged (test hit (Faulty code at) ∷ tests) ≡ Faulty k l → P k l
  unfolding judged pick
  fault_in true code at tests h next e = let ek : code ≡ k = cc in let el : at ≡ l = cc in rw (← ek, ← el) h
  fault_in false code at tests h next e = next refl e

  pub fault_past : (hit : Bool) (number : ℕ) (tests : List Test) → (hit ≡ false → judged tests ≡ Faulty k l → P k l)
      → judged (test hit (Refused number) ∷ tests) ≡ Faulty k l → P k l
  unfolding judged pick
  fault_past true number tests next e = absurd (refused_faulty number k l e)
  fault_past false number tests next e = next refl e
