-- Laws of `pick`, and the rules by which `search` settles it from what a function's branches say.
use mathlib.Core.Path.{◌≡◌, refl}
use mathlib.Core.Bool.{Bool, true, false, not, true≢false, false≢true}
use borrow.Author.Tests.{le-leb, lt-leb, lt-ltb, le-ltb, eq-eqb, ne_eqb}
use Rattle.base.specs.Pick.{pick}

pub pick_true {ℓ} : {A : Type ℓ} (b : Bool) (x y : A) → b ≡ true → pick b x y ≡ x
unfolding pick
pick_true true x y e = refl
pick_true false x y e = absurd (false≢true e)

pub pick-false {ℓ} : {A : Type ℓ} (b : Bool) (x y : A) → b ≡ false → pick b x y ≡ y
unfolding pick
pick-false false x y e = refl
pick-false true x y e = absurd (true≢false e)

pub pick-not-true {ℓ} : {A : Type ℓ} (b : Bool) (x y : A) → not b ≡ true → pick b x y ≡ y
unfolding pick
pick-not-true false x y e = refl
pick-not-true true x y e = absurd (false≢true e)

pub pick-not-false {ℓ} : {A : Type ℓ} (b : Bool) (x y : A) → not b ≡ false → pick b x y ≡ x
unfolding pick
pick-not-false true x y e = refl
pick-not-false false x y e = absurd (true≢false e)

-- what holds of both holds of the one that is picked
pub pick-both {ℓ m} : {A : Type ℓ} (P : A → Type m) (b : Bool) (x y : A) → P x → P y → P (pick b x y)
unfolding pick
pick-both P true x y hx hy = hx
pick-both P false x y hx hy = hy

pub ruleset decide = (le-leb, lt-leb, lt-ltb, le-ltb, eq-eqb, ne_eqb, pick_true, pick-false, pick-not-true, pick-not-false)
