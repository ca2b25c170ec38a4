-- Document 01, 'Tracks and slots': a slot's 8 ID bytes.
use Rattle.std.specs.Prelude.{ℕ, ◌+◌, ◌*◌, ◌/◌, ◌%◌, Bool, ◌&&◌, List, [], ◌∷◌, get_or, eqb}
use Rattle.geometry.specs.declared.params.Params.{Params}
use Rattle.geometry.specs.declared.params.Track.{Track}
use Rattle.geometry.specs.Params.{cylinder_of, head_of, track}
use Rattle.track.specs.declared.id.Id.{Id}
use Rattle.track.specs.declared.state.State.{State}
use Rattle.track.specs.State.{flag_of, partner_of}

-- A1h, cylinder (high, low), head, sector, flag, partner track (high, low).
unfoldable pub id_bytes : Id → List ℕ
id_bytes id =
    id.mark ∷ id.cylinder / 256 ∷ id.cylinder % 256 ∷ id.head ∷ id.sector ∷ id.flag
    ∷ id.partner.0 / 256 ∷ id.partner.0 % 256 ∷ []

unfoldable pub id_in : List ℕ → Id
id_in bytes = record {
  mark = get_or bytes 0 0;
  cylinder = get_or bytes 1 0 * 256 + get_or bytes 2 0;
  head = get_or bytes 3 0;
  sector = get_or bytes 4 0;
  flag = get_or bytes 5 0;
  partner = track (get_or bytes 6 0 * 256 + get_or bytes 7 0);
}

-- The ID of sector s in track t. All slots of a formatted track carry the same flag and partner.
unfoldable pub id_for : Params → Track → State → (s : ℕ) → Id
id_for p t state s = record {
  mark = 0xA1;
  cylinder = cylinder_of p t;
  head = head_of p t;
  sector = s;
  flag = flag_of state;
  partner = partner_of state;
}

-- The cylinder and head are t's own.
unfoldable pub own_id : Params → Track → Id → Bool
own_id p t id = eqb id.cylinder (cylinder_of p t) && eqb id.head (head_of p t)

-- the ID with another sector
unfoldable pub with_sector : Id → (s : ℕ) → Id
with_sector id s = record { mark = id.mark; cylinder = id.cylinder; head = id.head; sector = s; flag = id.flag; partner = id.partner }
