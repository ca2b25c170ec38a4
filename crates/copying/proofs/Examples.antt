-- Copies between small images, spelled out: three sectors of two bytes, three of three bytes.
use Prim.Native.Nat.{ℕ}
use mathlib.Core.Path.{◌≡◌, refl}
use mathlib.Core.List.{List, [], ◌∷◌, ◌++◌}
use lib.ListN.{replicate}
use Rattle.base.specs.Part.{part, splice}
use Rattle.base.specs.Pick.{pick}
use Rattle.base.specs.First.{first_from, first_below}
use Rattle.geometry.specs.declared.params.Params.{Params}
use Rattle.track.specs.Id.{id_in, own_id}
use Rattle.track.specs.Image.{track_bytes, with_track, slot_id, slot_data, with_data, first_id}
use Rattle.track.specs.Find.{taken_by, where_by, where_of, holds, slot_used, sector_in, sector_from, sector_found}
use Rattle.sectors.specs.Transfer.{begun, ended, read_slot, write_slot, onward, found, reading, writing}
use Rattle.contents.specs.Content.{content_in, content_of, put_in, put}
use Rattle.copying.specs.declared.route.Route.{Route}
use Rattle.copying.specs.Ends.{End}
use Rattle.copying.specs.Ends.{Going, SourceFault, TargetFault, Short}
use Rattle.copying.specs.Images.{image_of}
use Rattle.copying.specs.Copying.{Copying, on_by, store_in, store, stores, poured_by, copying, completed_by, completed, copied}
use Rattle.copying.specs.Listwise.{sectors_for, end_of, read_of, copied_at_once}

abbrev twos : Params
twos = record { cylinders = 1; heads = 1; sectors = 3; size = 2 }

abbrev threes : Params
threes = record { cylinders = 1; heads = 1; sectors = 3; size = 3 }

-- sector s of a sound track 0
abbrev slot : (s : ℕ) → (bytes : List ℕ) → List ℕ
slot s bytes = 0xA1 ∷ 0 ∷ 0 ∷ 0 ∷ s ∷ 0 ∷ 0 ∷ 0 ∷ bytes

abbrev image : (a b c : List ℕ) → List ℕ
image a b c = replicate 16 0 ++ (a ++ (b ++ c))

abbrev source : List ℕ
source = image (slot 0 (1 ∷ 2 ∷ [])) (slot 1 (3 ∷ 4 ∷ [])) (slot 2 (5 ∷ 6 ∷ []))

-- its slots in another order
abbrev target : List ℕ
target = image (slot 0 (9 ∷ 9 ∷ 9 ∷ [])) (slot 2 (9 ∷ 9 ∷ 9 ∷ [])) (slot 1 (9 ∷ 9 ∷ 9 ∷ []))

-- from the first to the second drive, and back
abbrev there : Route
there = record { source = 0; target = 1; p = twos; q = threes; a = record { 0 = 0 }; b = record { 0 = 0 } }

abbrev back : Route
back = record { source = 1; target = 0; p = threes; q = twos; a = record { 0 = 0 }; b = record { 0 = 1 } }

-- what is left: the counts, the last sector, both images, the end
abbrev left : (read done : ℕ) → (last source target : List ℕ) → End → Copying
left read done last source target end = record { read = read; done = done; rest = []; last = last; images = source ∷ target ∷ []; end = end }

abbrev old : List ℕ
old = 9 ∷ 9 ∷ 9 ∷ []

-- three sectors of two bytes fill two of three
whole : copied there 3 (source ∷ target ∷ [])
    ≡ left 3 2 (4 ∷ 5 ∷ 6 ∷ []) source (image (slot 0 (1 ∷ 2 ∷ 3 ∷ [])) (slot 2 old) (slot 1 (4 ∷ 5 ∷ 6 ∷ []))) Going
unfolding image_of part splice pick first_from first_below id_in own_id track_bytes with_track slot_id slot_data with_data first_id taken_by where_by where_of holds slot_used sector_in sector_from sector_found found content_in content_of put_in put on_by store_in store stores poured_by copying completed_by completed
whole = refl

-- two fill one, and the next in part: it is completed with zeros and counted
short : copied there 2 (source ∷ target ∷ [])
    ≡ left 2 2 (4 ∷ 0 ∷ 0 ∷ []) source (image (slot 0 (1 ∷ 2 ∷ 3 ∷ [])) (slot 2 old) (slot 1 (4 ∷ 0 ∷ 0 ∷ []))) Short
unfolding image_of part splice pick first_from first_below id_in own_id track_bytes with_track slot_id slot_data with_data first_id taken_by where_by where_of holds slot_used sector_in sector_from sector_found found content_in content_of put_in put on_by store_in store stores poured_by copying completed_by completed
short = refl

-- one of three bytes fills one of two, and the next in part
short_back : copied back 1 (source ∷ target ∷ [])
    ≡ left 1 2 (9 ∷ 0 ∷ []) (image (slot 0 (1 ∷ 2 ∷ [])) (slot 1 (9 ∷ 9 ∷ [])) (slot 2 (9 ∷ 0 ∷ []))) target Short
unfolding image_of part splice pick first_from first_below id_in own_id track_bytes with_track slot_id slot_data with_data first_id taken_by where_by where_of holds slot_used sector_in sector_from sector_found found content_in content_of put_in put on_by store_in store stores poured_by copying completed_by completed
short_back = refl

-- the third source sector is not found: the byte that waits is dropped
abbrev holed : List ℕ
holed = image (slot 0 (1 ∷ 2 ∷ [])) (slot 1 (3 ∷ 4 ∷ [])) (slot 7 (5 ∷ 6 ∷ []))

source_fault : copied there 3 (holed ∷ target ∷ [])
    ≡ left 2 1 (1 ∷ 2 ∷ 3 ∷ []) holed (image (slot 0 (1 ∷ 2 ∷ 3 ∷ [])) (slot 2 old) (slot 1 old)) (SourceFault 0x14)
unfolding image_of part splice pick first_from first_below id_in own_id track_bytes with_track slot_id slot_data with_data first_id taken_by where_by where_of holds slot_used sector_in sector_from sector_found found content_in content_of put_in put on_by store_in store stores poured_by copying completed_by completed
source_fault = refl

-- the second destination sector is not found, filled whole or in part; where the third source sector is not found either, that ends it
abbrev gap : List ℕ
gap = image (slot 0 old) (slot 2 old) (slot 7 old)

target_fault : copied there 3 (source ∷ gap ∷ [])
    ≡ left 3 1 (1 ∷ 2 ∷ 3 ∷ []) source (image (slot 0 (1 ∷ 2 ∷ 3 ∷ [])) (slot 2 old) (slot 7 old)) (TargetFault 0x14)
unfolding image_of part splice pick first_from first_below id_in own_id track_bytes with_track slot_id slot_data with_data first_id taken_by where_by where_of holds slot_used sector_in sector_from sector_found found content_in content_of put_in put on_by store_in store stores poured_by copying completed_by completed
target_fault = refl

target_fault_short : copied there 2 (source ∷ gap ∷ [])
    ≡ left 2 1 (1 ∷ 2 ∷ 3 ∷ []) source (image (slot 0 (1 ∷ 2 ∷ 3 ∷ [])) (slot 2 old) (slot 7 old)) (TargetFault 0x14)
unfolding image_of part splice pick first_from first_below id_in own_id track_bytes with_track slot_id slot_data with_data first_id taken_by where_by where_of holds slot_used sector_in sector_from sector_found found content_in content_of put_in put on_by store_in store stores poured_by copying completed_by completed
target_fault_short = refl

both_fault : copied there 3 (holed ∷ gap ∷ [])
    ≡ left 2 1 (1 ∷ 2 ∷ 3 ∷ []) holed (image (slot 0 (1 ∷ 2 ∷ 3 ∷ [])) (slot 2 old) (slot 7 old)) (SourceFault 0x14)
unfolding image_of part splice pick first_from first_below id_in own_id track_bytes with_track slot_id slot_data with_data first_id taken_by where_by where_of holds slot_used sector_in sector_from sector_found found content_in content_of put_in put on_by store_in store stores poured_by copying completed_by completed
both_fault = refl

-- the first destination sector is not found: two of the three source sectors were read
abbrev first_gap : List ℕ
first_gap = image (slot 7 old) (slot 2 old) (slot 1 old)

target_first : copied there 3 (holed ∷ first_gap ∷ []) ≡ left 2 0 [] holed first_gap (TargetFault 0x14)
unfolding image_of part splice pick first_from first_below id_in own_id track_bytes with_track slot_id slot_data with_data first_id taken_by where_by where_of holds slot_used sector_in sector_from sector_found found content_in content_of put_in put on_by store_in store stores poured_by copying completed_by completed
target_first = refl

-- on one drive, from its first sector to its third
one_drive : copied (record { source = 0; target = 0; p = twos; q = twos; a = record { 0 = 0 }; b = record { 0 = 2 } }) 1 (source ∷ target ∷ [])
    ≡ left 1 1 (1 ∷ 2 ∷ []) (image (slot 0 (1 ∷ 2 ∷ [])) (slot 1 (3 ∷ 4 ∷ [])) (slot 2 (1 ∷ 2 ∷ []))) target Going
unfolding image_of part splice pick first_from first_below id_in own_id track_bytes with_track slot_id slot_data with_data first_id taken_by where_by where_of holds slot_used sector_in sector_from sector_found found content_in content_of put_in put on_by store_in store stores poured_by copying completed_by completed
one_drive = refl

-- ---- the same, read first and written then
short_at_once : copied_at_once there 2 (source ∷ target ∷ [])
    ≡ left 2 2 (4 ∷ 0 ∷ 0 ∷ []) source (image (slot 0 (1 ∷ 2 ∷ 3 ∷ [])) (slot 2 old) (slot 1 (4 ∷ 0 ∷ 0 ∷ []))) Short
unfolding image_of part splice pick first_from first_below id_in own_id track_bytes with_track slot_id slot_data with_data first_id taken_by where_by where_of holds slot_used sector_in sector_from sector_found found begun ended read_slot write_slot onward reading writing sectors_for end_of read_of
short_at_once = refl

source_at_once : copied_at_once there 3 (holed ∷ target ∷ [])
    ≡ left 2 1 (1 ∷ 2 ∷ 3 ∷ []) holed (image (slot 0 (1 ∷ 2 ∷ 3 ∷ [])) (slot 2 old) (slot 1 old)) (SourceFault 0x14)
unfolding image_of part splice pick first_from first_below id_in own_id track_bytes with_track slot_id slot_data with_data first_id taken_by where_by where_of holds slot_used sector_in sector_from sector_found found begun ended read_slot write_slot onward reading writing sectors_for end_of read_of
source_at_once = refl

target_at_once : copied_at_once there 3 (source ∷ first_gap ∷ []) ≡ left 2 0 [] source first_gap (TargetFault 0x14)
unfolding image_of part splice pick first_from first_below id_in own_id track_bytes with_track slot_id slot_data with_data first_id taken_by where_by where_of holds slot_used sector_in sector_from sector_found found begun ended read_slot write_slot onward reading writing sectors_for end_of read_of
target_at_once = refl

-- where the third source sector is not found either, it is the destination's that ends it
both_at_once : copied_at_once there 3 (holed ∷ first_gap ∷ []) ≡ left 2 0 [] holed first_gap (TargetFault 0x14)
unfolding image_of part splice pick first_from first_below id_in own_id track_bytes with_track slot_id slot_data with_data first_id taken_by where_by where_of holds slot_used sector_in sector_from sector_found found begun ended read_slot write_slot onward reading writing sectors_for end_of read_of
both_at_once = refl

-- ---- where the ranges meet on one drive, the two differ: the first sector runs on
abbrev onto : Route
onto = record { source = 0; target = 0; p = twos; q = twos; a = record { 0 = 0 }; b = record { 0 = 1 } }

meeting_stepwise : copied onto 2 (source ∷ target ∷ [])
    ≡ left 2 2 (1 ∷ 2 ∷ []) (image (slot 0 (1 ∷ 2 ∷ [])) (slot 1 (1 ∷ 2 ∷ [])) (slot 2 (1 ∷ 2 ∷ []))) target Going
unfolding image_of part splice pick first_from first_below id_in own_id track_bytes with_track slot_id slot_data with_data first_id taken_by where_by where_of holds slot_used sector_in sector_from sector_found found content_in content_of put_in put on_by store_in store stores poured_by copying completed_by completed
meeting_stepwise = refl

meeting_at_once : copied_at_once onto 2 (source ∷ target ∷ [])
    ≡ left 2 2 (3 ∷ 4 ∷ []) (image (slot 0 (1 ∷ 2 ∷ [])) (slot 1 (1 ∷ 2 ∷ [])) (slot 2 (3 ∷ 4 ∷ []))) target Going
unfolding image_of part splice pick first_from first_below id_in own_id track_bytes with_track slot_id slot_data with_data first_id taken_by where_by where_of holds slot_used sector_in sector_from sector_found found begun ended read_slot write_slot onward reading writing sectors_for end_of read_of
meeting_at_once = refl
