-- Document 01, Check Track: a track's ID bytes held against those that a format writes.
use Rattle.std.specs.Prelude.{ℕ, Bool, List, length, get_or, eqb}
use Rattle.base.specs.Pick.{pick}
use Rattle.base.specs.First.{every_below}
use Rattle.base.specs.Same.{same_bytes}
use Rattle.geometry.specs.declared.params.Params.{Params}
use Rattle.geometry.specs.declared.params.Track.{Track}
use Rattle.track.specs.declared.id.Id.{Id}
use Rattle.track.specs.declared.state.State.{State}
use Rattle.track.specs.declared.state.State.TheVariants.{Sound, Taken}
use Rattle.track.specs.Find.{Where}
use Rattle.track.specs.Find.{On, Off}
use Rattle.track.specs.Id.{id_bytes, id_for, with_sector}
use Rattle.track.specs.Image.{track_bytes, slot_id}
use Rattle.track.specs.Find.{where_of}

-- Slot k has the 8 ID bytes that a format writes there.
unfoldable pub id_is : Params → Id → (map bytes : List ℕ) → (k : ℕ) → Bool
id_is p id map bytes k = same_bytes (slot_id p k bytes) (id_bytes (with_sector id (get_or map k 0)))

-- Every slot has.
unfoldable pub ids_are : Params → Id → (map bytes : List ℕ) → Bool
ids_are p id map bytes = every_below (id_is p id map bytes) (length map)

-- The state of the track where t's sectors are: t itself sound, or its partner, taken by t.
unfoldable pub home_state : (t u : Track) → State
home_state t u = pick (eqb u.0 t.0) Sound (Taken t)

-- Slot 0 as for finding a sector; then every slot's ID bytes, on the partner if moved; else 1Ah. Code 0: all is well.
unfoldable pub checked_on : Params → Track → (map image : List ℕ) → Where → ℕ
checked_on p t map image (Off code) = code
checked_on p t map image (On u) = pick (ids_are p (id_for p u (home_state t u) 0) map (track_bytes p u image)) 0 0x1A

unfoldable pub check_code : Params → Track → (map image : List ℕ) → ℕ
check_code p t map image = checked_on p t map image (where_of p t image)
