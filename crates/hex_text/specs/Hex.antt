-- Hex digits: either case is read, upper case is written.
use Rattle.std.specs.Prelude.{ℕ, ◌+◌, ◌-◌, ◌*◌, ◌/◌, ◌%◌, ◌&&◌, List, [], ◌∷◌, Some, None, leb, ltb}
use Rattle.std.specs.Prelude as std
use Rattle.std.proofs.Math.Option.{Option, none, some}
use Rattle.base.specs.Pick.{pick}

-- The value of a character; none where it is no digit.
unfoldable pub value_of : (c : ℕ) → std.Option ℕ
value_of c =
    pick (leb 0x30 c && leb c 0x39) (Some (c - 0x30))
    (pick (leb 0x41 c && leb c 0x46) (Some (c - 0x37))
    (pick (leb 0x61 c && leb c 0x66) (Some (c - 0x57))
    None))

unfoldable pub digit_for : (value : ℕ) → ℕ
digit_for value = pick (ltb value 10) (value + 0x30) (value + 0x37)

-- Two digits a byte, high one first.
unfoldable pub encoded : (bytes : List ℕ) → List ℕ
encoded [] = []
encoded (b ∷ bytes) = digit_for (b / 16) ∷ digit_for (b % 16) ∷ encoded bytes

unfoldable pub before : ℕ → Option (List ℕ) → Option (List ℕ)
before b none = none
before b (some bytes) = some (b ∷ bytes)

-- The byte of two digits and then the rest; none where a digit is none.
unfoldable pub digits_before : (high low : std.Option ℕ) → (rest : Option (List ℕ)) → Option (List ℕ)
digits_before None low rest = none
digits_before (Some high) None rest = none
digits_before (Some high) (Some low) rest = before (high * 16 + low) rest

-- The bytes of a text; none where a character is no digit or one is left over.
unfoldable pub decoded : (text : List ℕ) → Option (List ℕ)
decoded [] = some []
decoded (c ∷ []) = none
decoded (c ∷ d ∷ text) = digits_before (value_of c) (value_of d) (decoded text)
