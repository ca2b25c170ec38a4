-- What bytes copied to the front of a list leave.
use mathlib.Core.Path.{◌≡◌}
use mathlib.Core.List.{List, ◌++◌}
use Prim.Native.Nat.{ℕ, ◌+◌}
use native.Mathlib.Omega.{arith}
use lib.ListN.{length, drop}
use Rattle.base.specs.Part.{splice}

-- The front is lent, and what was copied comes back.
pub front_lent : (src dst last : List ℕ) (n : ℕ) → length src ≡ n → last ≡ src → last ++ drop n dst ≡ splice 0 src dst
unfolding splice
front_lent src dst last n long e = let m : 0 + length src ≡ n = omega arith in rw (e, m)
