-- The last sector of a transfer.
use Rattle.std.specs.Prelude.{ℕ, zero, suc, ◌*◌, List, []}
use Rattle.base.specs.Part.{part}

-- The last of n sectors that lie one behind the other.
unfoldable pub last_of : (n size : ℕ) → List ℕ → List ℕ
last_of zero size xs = []
last_of (suc n) size xs = part (n * size) size xs
