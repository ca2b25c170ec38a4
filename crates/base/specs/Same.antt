-- Two lists of bytes are the same; a list is one byte repeated.
use Rattle.std.specs.Prelude.{ℕ, Bool, true, false, ◌&&◌, List, [], ◌∷◌, length, replicate, eqb}

unfoldable pub same_bytes : List ℕ → List ℕ → Bool
same_bytes [] [] = true
same_bytes [] (y ∷ ys) = false
same_bytes (x ∷ xs) [] = false
same_bytes (x ∷ xs) (y ∷ ys) = eqb x y && same_bytes xs ys

-- one byte, repeated
unfoldable pub one_byte : List ℕ → Bool
one_byte [] = false
one_byte (b ∷ bytes) = same_bytes bytes (replicate (length bytes) b)
