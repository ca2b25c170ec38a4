-- Request E7: track A, `from`, is moved to track B, `to`, with its contents, by single writes in a fixed order. A map here is a layout, the
-- sector in each slot, and no patient's map.
use Rattle.std.specs.Prelude.{ℕ, zero, suc, ◌+◌, ◌-◌, ◌*◌, ◌/◌, ◌%◌, ◌<◌, ◌≡◌, ◌⊎◌, List, length, get_or, eqb, ltb, IsSome}
use Rattle.std.specs.Option.{unwrap_or}
use Rattle.std.specs.declared.option.Option.TheVariants.{None}
use Rattle.base.specs.Pick.{pick}
use Rattle.base.specs.Part.{splice}
use Rattle.geometry.specs.declared.params.Track.{Track}
use Rattle.geometry.specs.declared.params.Params.{Params}
use Rattle.geometry.specs.Params.{track_count, slot_size, track_start}
use Rattle.track.specs.declared.state.State.TheVariants.{Sound, Moved, Taken}
use Rattle.track.specs.Find.{On}
use Rattle.track.specs.Find.{Slot}
use Rattle.track.specs.Id.{id_bytes, id_for}
use Rattle.track.specs.Image.{track_bytes, slot_data}
use Rattle.track.specs.Find.{where_of, sector_found}
use Rattle.track.specs.Search.{Note}
use Rattle.track.specs.Pair.{state_of}
use Rattle.contents.specs.Content.{Content, Bytes, Missing, read_bytes, content_at}

-- ---- A must be sound with every sector found, else the error for the first missing one. (A moved A is 1Dh, before this is asked.)
-- The code that says why a sector is missing, or 0.
unfoldable pub code_of : Content → ℕ
code_of (Bytes sector) = 0
code_of (Missing code) = code

-- The code of the first missing of m sectors from s on, or 0.
unfoldable pub first_missing : Params → Track → (image : List ℕ) → (m s : ℕ) → ℕ
first_missing p t image zero s = 0
first_missing p t image (suc m) s =
    let code = code_of (content_at p t s image) in
    pick (eqb code 0) (first_missing p t image m (suc s)) code

-- Of all n sectors of track t.
unfoldable pub keep_code : Params → Track → (image : List ℕ) → ℕ
keep_code p t image = first_missing p t image p.sectors 0

-- ---- One write: an ID, or one slot's data, into slot k of track t
pub data Write : Type 0 where
  Id : Track → (k : ℕ) → (bytes : List ℕ) → Write
  Body : Track → (k : ℕ) → (bytes : List ℕ) → Write

abbrev pub slot_start : Params → Track → (k : ℕ) → ℕ
slot_start p t k = track_start p t + k * slot_size p

unfoldable pub after_write : Params → Write → (image : List ℕ) → List ℕ
after_write p (Id t k bytes) image = splice (slot_start p t k) bytes image
after_write p (Body t k bytes) image = splice (slot_start p t k + 8) bytes image

-- ---- The writes of a move, where `sectors` has the data of A's sectors
-- B's slot k: its ID, taken by A; its data, those of the sector that the map puts there.
abbrev pub copy_id : Params → (from to : Track) → (map : List ℕ) → (k : ℕ) → Write
copy_id p from to map k = Id to k (id_bytes (id_for p to (Taken from) (get_or map k 0)))

abbrev pub copy_body : (to : Track) → (map : List ℕ) → (sectors : ℕ → List ℕ) → (k : ℕ) → Write
copy_body to map sectors k = Body to k (sectors (get_or map k 0))

-- A's slot k: its ID, moved to B. Its data stay.
abbrev pub leave_id : Params → (from to : Track) → (map : List ℕ) → (k : ℕ) → Write
leave_id p from to map k = Id from k (id_bytes (id_for p from (Moved to) (get_or map k 0)))

-- Write i of 3n, counted from 0: first all B's slots, each its ID and then its data; then A's slot 0 ID alone; then A's other IDs.
unfoldable pub write_with : Params → (from to : Track) → (map : List ℕ) → (sectors : ℕ → List ℕ) → (i : ℕ) → Write
write_with p from to map sectors i =
    pick (ltb i (p.sectors * 2))
    (pick (eqb (i % 2) 0) (copy_id p from to map (i / 2)) (copy_body to map sectors (i / 2)))
    (leave_id p from to map (i - p.sectors * 2))

-- ---- The move of what an image holds before the first write
abbrev pub sectors_of : Params → Track → (image : List ℕ) → (s : ℕ) → List ℕ
sectors_of p t image s = read_bytes (content_at p t s image)

unfoldable pub write_of : Params → (from to : Track) → (map image : List ℕ) → (i : ℕ) → Write
write_of p from to map image i = write_with p from to map (sectors_of p from image) i

-- The first i writes are made.
unfoldable pub after_writes : Params → (from to : Track) → (map image : List ℕ) → (i : ℕ) → List ℕ
after_writes p from to map image zero = image
after_writes p from to map image (suc i) = after_write p (write_of p from to map image i) (after_writes p from to map image i)

-- All of them are: A is moved.
unfoldable pub kept : Params → (from to : Track) → (map image : List ℕ) → List ℕ
kept p from to map image = after_writes p from to map image (p.sectors * 3)

-- ---- What code and theorems go by
-- A is sound with every sector found; B is another track, neither bad nor moved nor taken by another than A
-- (one that was never formatted counts as sound).
pub record Keepable (p : Params) (from to : Track) (image : List ℕ) : Type 0 where
  pub from_in : from.0 < track_count p
  pub to_in : to.0 < track_count p
  pub apart : from.0 ≡ to.0 → ⊥
  pub home : where_of p from image ≡ On from
  pub whole : (s : ℕ) → s < p.sectors → (sector : List ℕ) × (content_at p from s image ≡ Bytes sector)
  pub free : (state_of p to image ≡ Sound) ⊎ (state_of p to image ≡ Taken from)

-- A map of n slots: each has a sector, and each sector a slot.
pub record Mapped (n : ℕ) (map : List ℕ) : Type 0 where
  pub long : length map ≡ n
  pub below : (k : ℕ) → k < n → get_or map k 0 < n
  pub has : (s : ℕ) → s < n → (k : ℕ) × (k < n) × (get_or map k 0 ≡ s)

-- The slot that is noted for sector s.
abbrev pub slot_noted : (slots : List Note) → (s : ℕ) → ℕ
slot_noted slots s = unwrap_or (get_or slots s None) 0

-- The slot of each of n sectors is noted, in a list of 32, the most sectors that a track has.
pub record Noting (n : ℕ) (slots : List Note) : Type 0 where
  pub long : length slots ≡ 32
  pub noted : (s : ℕ) → s < n → IsSome (get_or slots s None)
  pub below : (s : ℕ) → s < n → slot_noted slots s < n

-- Each sector of track t is found, in the slot that is noted for it.
unfoldable pub Located : Params → Track → (slots : List Note) → (image : List ℕ) → Type 0
Located p t slots image =
    (s : ℕ) → s < p.sectors → IsSome (get_or slots s None) × (u : Track) × (sector_found p t s image ≡ Slot u (slot_noted slots s))

-- The data in the slots of track t that are noted.
abbrev pub noted_data : Params → Track → (slots : List Note) → (image : List ℕ) → (s : ℕ) → List ℕ
noted_data p t slots image s = slot_data p (slot_noted slots s) (track_bytes p t image)
