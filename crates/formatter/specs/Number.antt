-- Bytes as a number: how the code compares the eight bytes of an ID.
use Rattle.std.specs.Prelude.{ℕ, ◌+◌, ◌*◌, List, [], ◌∷◌}

-- high byte first
unfoldable pub number_from : (high : ℕ) → (bytes : List ℕ) → ℕ
number_from high [] = high
number_from high (b ∷ bytes) = number_from (high * 256 + b) bytes

unfoldable pub number_of : (bytes : List ℕ) → ℕ
number_of bytes = number_from 0 bytes
