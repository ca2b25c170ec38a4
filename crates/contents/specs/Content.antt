-- One sector is the unit: what a reader gets at an address, and the image with a sector put there. By finding alone, in any image.
use Rattle.std.specs.Prelude.{ℕ, List, []}
use Rattle.geometry.specs.declared.params.Params.{Params}
use Rattle.geometry.specs.declared.params.Lba.{Lba}
use Rattle.geometry.specs.declared.params.Track.{Track}
use Rattle.track.specs.Image.{track_bytes, with_track, slot_data, with_data}
use Rattle.track.specs.Find.{Sector}
use Rattle.track.specs.Find.{Slot, Fault}
use Rattle.track.specs.Find.{sector_found}
use Rattle.sectors.specs.Transfer.{found}

-- The D bytes of the slot that finding gives, or finding's code.
pub data Content : Type 0 where
  Bytes : (sector : List ℕ) → Content
  Missing : (code : ℕ) → Content

-- The bytes that a reader gets: none where the sector is missing.
unfoldable pub read_bytes : Content → List ℕ
read_bytes (Bytes sector) = sector
read_bytes (Missing code) = []

unfoldable pub content_in : Params → (image : List ℕ) → Sector → Content
content_in p image (Slot t k) = Bytes (slot_data p k (track_bytes p t image))
content_in p image (Fault code) = Missing code

-- of sector s of track t
unfoldable pub content_at : Params → Track → (s : ℕ) → (image : List ℕ) → Content
content_at p t s image = content_in p image (sector_found p t s image)

-- at an address
unfoldable pub content_of : Params → Lba → (image : List ℕ) → Content
content_of p a image = content_in p image (found p a image)

-- The image with the sector's bytes in the slot that finding gives; as it is where finding gives a code.
unfoldable pub put_in : Params → (sector image : List ℕ) → Sector → List ℕ
put_in p sector image (Slot t k) = with_track p t (with_data p k sector (track_bytes p t image)) image
put_in p sector image (Fault code) = image

unfoldable pub put : Params → Lba → (sector image : List ℕ) → List ℕ
put p a sector image = put_in p sector image (found p a image)
