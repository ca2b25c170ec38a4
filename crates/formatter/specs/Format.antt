-- Document 01, 'Tracks and slots': a formatted track. A map lists the sector in each slot: the layout of an interleave.
use Rattle.std.specs.Prelude.{ℕ, zero, suc, ◌+◌, ◌*◌, List, ◌++◌, length, take, drop, get_or}
use Rattle.base.specs.Part.{splice, rows}
use Rattle.geometry.specs.declared.params.Params.{Params}
use Rattle.geometry.specs.declared.params.Track.{Track}
use Rattle.geometry.specs.Params.{next_track}
use Rattle.track.specs.declared.id.Id.{Id}
use Rattle.track.specs.declared.state.State.{State}
use Rattle.track.specs.declared.state.State.TheVariants.{Sound}
use Rattle.track.specs.Id.{with_sector, id_bytes, id_for}
use Rattle.track.specs.Image.{with_track}

-- slot k, whole: the ID, then the data
unfoldable pub slot_made : Id → (map fill : List ℕ) → (k : ℕ) → List ℕ
slot_made id map fill k = id_bytes (with_sector id (get_or map k 0)) ++ fill

-- The slots one after the other, as a format writes them.
unfoldable pub slots_made : Id → (map fill : List ℕ) → List ℕ
slots_made id map fill = rows (slot_made id map fill) (length map)

-- A step: slot k of a track's stretch becomes slot k of the finished format, all else is as before (request E4).
unfoldable pub stepped : Id → (map fill : List ℕ) → (k : ℕ) → (track : List ℕ) → List ℕ
stepped id map fill k track = splice (k * (8 + length fill)) (slot_made id map fill k) track

-- k steps, in slot order
unfoldable pub after_steps : Id → (map fill : List ℕ) → (k : ℕ) → (track : List ℕ) → List ℕ
after_steps id map fill zero track = track
after_steps id map fill (suc k) track = stepped id map fill k (after_steps id map fill k track)

-- The first k slots are those of the finished format, the rest of the stretch is as before.
unfoldable pub under_way : Id → (map fill : List ℕ) → (k : ℕ) → (track : List ℕ) → List ℕ
under_way id map fill k track = take (k * (8 + length fill)) (slots_made id map fill) ++ drop (k * (8 + length fill)) track

unfoldable pub formatted : Params → Track → State → (map fill : List ℕ) → List ℕ
formatted p t state map fill = slots_made (id_for p t state 0) map fill

-- n tracks from track t on become sound
unfoldable pub sound_from : Params → (map fill : List ℕ) → (n : ℕ) → Track → List ℕ → List ℕ
sound_from p map fill zero t image = image
sound_from p map fill (suc n) t image = sound_from p map fill n (next_track t) (with_track p t (formatted p t Sound map fill) image)
