-- The first number that passes a test, and tests of every number below a bound.
use Rattle.std.specs.Prelude.{Bool, true, false, not, ℕ, zero, suc}
use Rattle.std.proofs.Math.Option.{Option, none, some}
use Rattle.base.specs.Pick.{pick}

-- the first of the c numbers from k on that passes
unfoldable pub first_from : (test : ℕ → Bool) → (k c : ℕ) → Option ℕ
first_from test k zero = none
first_from test k (suc c) = pick (test k) (some k) (first_from test (suc k) c)

-- the first below n that passes
unfoldable pub first_below : (test : ℕ → Bool) → (n : ℕ) → Option ℕ
first_below test n = first_from test 0 n

unfoldable pub is_some : Option ℕ → Bool
is_some none = false
is_some (some k) = true

-- some number below n passes
unfoldable pub some_below : (test : ℕ → Bool) → (n : ℕ) → Bool
some_below test n = is_some (first_below test n)

-- every number below n passes
unfoldable pub every_below : (test : ℕ → Bool) → (n : ℕ) → Bool
every_below test n = not (some_below (λ k. not (test k)) n)
