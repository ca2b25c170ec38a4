-- Request E7: what power leaves of the image when it fails during a move.
use Rattle.std.specs.Prelude.{ℕ, ◌*◌, ◌<◌, ◌≡◌, Bool, true, false, List, length}
use Rattle.geometry.specs.declared.params.Track.{Track}
use Rattle.geometry.specs.declared.params.Params.{Params}
use Rattle.keeping.specs.Keep.{Write, Id, Body, after_write, write_of, after_writes}

-- Data under way may be torn, an ID may not.
unfoldable pub may_tear : Write → Bool
may_tear (Id t k bytes) = false
may_tear (Body t k bytes) = true

-- A write's bytes, and the write with others in their place.
unfoldable pub new_bytes : Write → List ℕ
new_bytes (Id t k bytes) = bytes
new_bytes (Body t k bytes) = bytes

unfoldable pub with_bytes : (any : List ℕ) → Write → Write
with_bytes any (Id t k bytes) = Id t k any
with_bytes any (Body t k bytes) = Body t k any

-- A write is cut short: it has not begun, or it is finished, an ID as a whole; data under way are anything of their length, in their place.
pub data Cut (p : Params) (w : Write) (before after : List ℕ) : Type 0 where
  unbegun : after ≡ before → Cut p w before after
  finished : after ≡ after_write p w before → Cut p w before after
  torn : (any : List ℕ) → may_tear w ≡ true → length any ≡ length (new_bytes w) → after ≡ after_write p (with_bytes any w) before → Cut p w before after

-- Finished writes stand, later ones did not begin: the first i writes are made, and the next, write i of 3n, is cut short.
pub record Interrupted (p : Params) (from to : Track) (map image after : List ℕ) : Type 0 where
  pub i : ℕ
  pub within : i < p.sectors * 3
  pub cut : Cut p (write_of p from to map image i) (after_writes p from to map image i) after
