-- Laws of tests.
use mathlib.Core.Path.{◌≡◌, refl, sym, ◌∙◌}
use mathlib.Core.Bool.{Bool, true, false, not, ◌&&◌, ◌||◌, and-false, true≢false, false≢true}
use Prim.Native.Nat.{ℕ, ◌≤◌, ◌<◌}
use native.Mathlib.Omega.{arith}
use native.Mathlib.Decide.{dec_lt}
use lib.Dec.{ltb, leb}
use borrow.Author.Tests.{lt-ltb, le-ltb, lt-leb, le-leb, eq-eqb, ne_eqb}

-- at most is not above
pub leb_not : (a b : ℕ) → leb a b ≡ not (ltb b a)
leb_not a b = by (dec_lt b a)
  where
    by : Dec (b < a) → leb a b ≡ not (ltb b a)
    by (yes h) = rw (lt-ltb b a h, lt-leb a b h)
    by (no h) = let l : a ≤ b = omega arith in rw (le-ltb b a l, le-leb a b l)

-- where both hold, each holds
pub both_true : (a b : Bool) → (a && b) ≡ true → (a ≡ true) × (b ≡ true)
both_true true b e = (refl, e)
both_true false b e = absurd (false≢true e)

-- where one fails, both do; where the first holds, the second says
pub and_off : (a b : Bool) → a ≡ false → (a && b) ≡ false
and_off a b e = rw e

pub off_and : (a b : Bool) → b ≡ false → (a && b) ≡ false
off_and a b e = rw e (and-false a)

pub and_on : (a b : Bool) → a ≡ true → (a && b) ≡ b
and_on a b e = rw e

-- where neither holds, each fails
pub or_off : (a b : Bool) → (a || b) ≡ false → (a ≡ false) × (b ≡ false)
or_off false b h = (refl, h)
or_off true b h = absurd (true≢false h)

pub not-false : (b : Bool) → not b ≡ false → b ≡ true
not-false true e = refl
not-false false e = absurd (true≢false e)

pub not-true : (b : Bool) → not b ≡ true → b ≡ false
not-true true e = absurd (false≢true e)
not-true false e = refl

-- a test that the code has made, where it goes on and where it turns off
pub test_on : (b x : Bool) → b ≡ x → not b ≡ false → x ≡ true
test_on b x is e = sym is ∙ not-false b e

pub test_off : (b x : Bool) → b ≡ x → not b ≡ true → x ≡ false
test_off b x is e = sym is ∙ not-true b e

-- the rules by which `search` settles tests that are joined
pub ruleset joined = (eq-eqb, ne_eqb, and_off, off_and, and_on, not-false, not-true, test_on, test_off)
