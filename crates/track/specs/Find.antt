-- Document 01, 'Tracks and slots': finding sector s of track t, in any image.
use Rattle.std.specs.Prelude.{ℕ, Bool, not, ◌&&◌, List, eqb, ltb}
use Rattle.std.proofs.Math.Option.{Option, none, some}
use Rattle.std.specs.Prelude.{Result, Ok, Err}
use Rattle.codes.specs.declared.Code.{Code}
use Rattle.codes.specs.Numbers.{number_of}
use Rattle.base.specs.Pick.{pick}
use Rattle.base.specs.First.{first_below}
use Rattle.geometry.specs.declared.params.Params.{Params}
use Rattle.geometry.specs.declared.params.Track.{Track}
use Rattle.geometry.specs.Params.{track_count}
use Rattle.track.specs.declared.id.Id.{Id}
use Rattle.track.specs.declared.find.Place.{Place}
use Rattle.track.specs.Id.{id_in, own_id}
use Rattle.track.specs.Image.{track_bytes, slot_id, first_id}

-- The track where the search for a track's sectors goes on, or an error's code.
pub data Where : Type 0 where
  On : Track → Where
  Off : ℕ → Where

-- The track and the slot that a sector is in, or an error's code.
pub data Sector : Type 0 where
  Slot : Track → ℕ → Sector
  Fault : ℕ → Sector

-- Track u is t's partner: a track of this drive whose slot 0 has A1h, its own cylinder and head, flag 3 and partner t.
unfoldable pub taken_by : Params → (t u : Track) → Id → Bool
taken_by p t u id = ltb u.0 (track_count p) && eqb id.mark 0xA1 && own_id p u id && eqb id.flag 3 && eqb id.partner.0 t.0

-- By t's slot 0: byte 0 not A1h, 12h; cylinder or head not t's own, 15h; flag above 3, 10h; flag 1, 19h; flag 3, 1Ch.
-- Flag 2: the search goes on in the partner if that is taken by t, else 1Eh.
unfoldable pub where_by : Track → Id → (own taken : Bool) → Where
where_by t id own taken =
    pick (not (eqb id.mark 0xA1)) (Off 0x12)
    (pick (not own) (Off 0x15)
    (pick (ltb 3 id.flag) (Off 0x10)
    (pick (eqb id.flag 1) (Off 0x19)
    (pick (eqb id.flag 3) (Off 0x1C)
    (pick (eqb id.flag 2) (pick taken (On id.partner) (Off 0x1E))
    (On t))))))

-- The track where the search goes on, or the error.
unfoldable pub where_of : Params → Track → List ℕ → Where
where_of p t image =
    where_by t (first_id p t image) (own_id p t (first_id p t image))
    (taken_by p t (first_id p t image).partner (first_id p (first_id p t image).partner image))

-- Slot k has A1h and sector byte s.
unfoldable pub holds : Params → (s : ℕ) → (bytes : List ℕ) → (k : ℕ) → Bool
holds p s bytes k = eqb (id_in (slot_id p k bytes)).mark 0xA1 && eqb (id_in (slot_id p k bytes)).sector s

-- Of the slots that hold s the one nearest the track's start is used (request E2).
unfoldable pub slot_used : Params → (s : ℕ) → (bytes : List ℕ) → Option ℕ
slot_used p s bytes = first_below (holds p s bytes) p.sectors

-- No slot holds s: 14h.
unfoldable pub sector_in : Track → Option ℕ → Sector
sector_in u none = Fault 0x14
sector_in u (some k) = Slot u k

unfoldable pub sector_from : Params → (s : ℕ) → List ℕ → Where → Sector
sector_from p s image (Off code) = Fault code
sector_from p s image (On u) = sector_in u (slot_used p s (track_bytes p u image))

-- Finding sector s of track t: the track and the slot that it is in, or the error.
unfoldable pub sector_found : Params → Track → (s : ℕ) → List ℕ → Sector
sector_found p t s image = sector_from p s image (where_of p t image)

-- What the code answers, in these terms.
abbrev pub as_where : Result Track Code → Where
as_where (Ok u) = On u
as_where (Err code) = Off (number_of code)

abbrev pub as_sector : Result Place Code → Sector
as_sector (Ok place) = Slot place.track place.slot
as_sector (Err code) = Fault (number_of code)
