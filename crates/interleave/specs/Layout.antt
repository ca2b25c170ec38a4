-- Document 01, 'Tracks and slots': the interleave. A layout lists the sector in each slot of a track of n; while it is
-- made, the entry n says that a slot is empty.
use Rattle.std.specs.Prelude.{ℕ, zero, suc, ◌+◌, ◌-◌, ◌%◌, List, get_or, set, replicate, eqb}
use Rattle.base.specs.Pick.{pick}

-- the first empty slot reached from `slot`, going upward and round, of the next k slots
unfoldable pub empty_from : (map : List ℕ) → (n k slot : ℕ) → ℕ
empty_from map n zero slot = slot
empty_from map n (suc k) slot = pick (eqb (get_or map slot 0) n) slot (empty_from map n k ((slot + 1) % n))

-- the sectors placed so far, and the slot of the last one
pub record Laid : Type 0 where
  pub map : List ℕ
  pub last : ℕ

unfoldable pub lay_at : (s : ℕ) → (map : List ℕ) → (slot : ℕ) → Laid
lay_at s map slot = record { map = set map slot s; last = slot }

-- Each next sector has the first empty slot reached from (previous slot + f) mod n.
unfoldable pub place : (n f s : ℕ) → Laid → Laid
place n f s l = lay_at s l.map (empty_from l.map n n ((l.last + f) % n))

-- Sectors 0 to s are placed. Sector 0 has slot 0.
unfoldable pub laid : (n f s : ℕ) → Laid
laid n f zero = lay_at 0 (replicate n n) 0
laid n f (suc s) = place n f (suc s) (laid n f s)

unfoldable pub layout_of : (n f : ℕ) → List ℕ
layout_of n f = (laid n f (n - 1)).map
