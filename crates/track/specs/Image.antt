-- Document 01, 'Tracks and slots': where tracks and slots lie in an image.
use Rattle.std.specs.Prelude.{ℕ, ◌+◌, ◌*◌, ◌≤◌, List, length}
use Rattle.base.specs.Part.{part, splice}
use Rattle.geometry.specs.declared.params.Params.{Params}
use Rattle.geometry.specs.declared.params.Track.{Track}
use Rattle.geometry.specs.Params.{Within, slot_size, track_size, image_length, track_start}
use Rattle.track.specs.declared.id.Id.{Id}
use Rattle.track.specs.Id.{id_in}

-- The image is as long as the parameters ask.
pub record Fits (p : Params) (image : List ℕ) : Type 0 where
  pub within : Within p
  pub long : image_length p ≤ length image

-- Tracks follow the label in order: the stretch of track t, and the image with another stretch in its place.
unfoldable pub track_bytes : Params → Track → List ℕ → List ℕ
track_bytes p t image = part (track_start p t) (track_size p) image

unfoldable pub with_track : Params → Track → List ℕ → List ℕ → List ℕ
with_track p t bytes image = splice (track_start p t) bytes image

-- In a track's stretch: slot k is 8 ID bytes and D data bytes.
unfoldable pub slot_bytes : Params → (k : ℕ) → List ℕ → List ℕ
slot_bytes p k bytes = part (k * slot_size p) (slot_size p) bytes

unfoldable pub slot_id : Params → (k : ℕ) → List ℕ → List ℕ
slot_id p k bytes = part (k * slot_size p) 8 bytes

unfoldable pub slot_data : Params → (k : ℕ) → List ℕ → List ℕ
slot_data p k bytes = part (k * slot_size p + 8) p.size bytes

unfoldable pub with_data : Params → (k : ℕ) → (sector bytes : List ℕ) → List ℕ
with_data p k sector bytes = splice (k * slot_size p + 8) sector bytes

-- what a track's slot 0 says
unfoldable pub first_id : Params → Track → List ℕ → Id
first_id p t image = id_in (slot_id p 0 (track_bytes p t image))
