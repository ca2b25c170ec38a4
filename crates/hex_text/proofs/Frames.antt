-- Laws of a line's bytes as a whole.
use Prim.Native.Nat.{ℕ, suc}
use mathlib.Core.Path.{◌≡◌, refl}
use mathlib.Core.Bool.{and-true, and-false}
use mathlib.Core.List.{List, [], ◌∷◌}
use native.Mathlib.Omega.{arith}
use lib.Dec.{eqb}
use lib.ListN.{length}
use borrow.Author.Tests.{ne_eqb}
use Rattle.std.specs.Cmp.Lexicographic.{pointwise}
use Rattle.hex_text.specs.Frame.{is_reset}

-- FF alone, as `==` of two slices says it
pub reset_pointwise : (frame : List ℕ) → pointwise eqb frame (0xFF ∷ []) ≡ is_reset frame
unfolding is_reset
reset_pointwise [] = refl
reset_pointwise (b ∷ []) = rw and-true
reset_pointwise (b ∷ d ∷ frame) = rw (and-false, ne_eqb (suc (suc (length frame))) 1 (λ e. omega arith))
