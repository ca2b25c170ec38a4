-- The bytes of a line, as a whole.
use Rattle.std.specs.Prelude.{ℕ, Bool, ◌&&◌, List, length, get_or, eqb}

-- FF alone is Reset.
unfoldable pub is_reset : (frame : List ℕ) → Bool
is_reset frame = eqb (length frame) 1 && eqb (get_or frame 0 0) 0xFF
