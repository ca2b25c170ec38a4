-- Document 01, the end of 'Order of checks': the four sense bytes of a drive.
use Rattle.std.specs.Prelude.{ℕ, ◌+◌, ◌*◌, ◌/◌, ◌%◌, Bool, ◌&&◌, ◌||◌, List, [], ◌∷◌, leb, eqb}
use Rattle.base.specs.Pick.{pick}
use Rattle.geometry.specs.declared.params.Lba.{Lba}

-- Codes 21h, 10h-15h and 19h-1Fh give an address, and 23h (request E5).
unfoldable pub addressed : (code : ℕ) → Bool
addressed code = eqb code 0x21 || eqb code 0x23 || (leb 0x10 code && leb code 0x15) || (leb 0x19 code && leb code 0x1F)

-- Code, plus 80h where an address is given; 32 × drive + address high; middle; low. Without one the address is 0.
unfoldable pub sense_of : (code drive : ℕ) → Lba → List ℕ
sense_of code drive at =
    pick (addressed code)
    ((code + 0x80) ∷ (32 * drive + at.0 / 65536) ∷ (at.0 / 256 % 256) ∷ (at.0 % 256) ∷ [])
    (code ∷ (32 * drive) ∷ 0 ∷ 0 ∷ [])
