-- Damaged images: what finding and Check Track say, byte by byte. Two cylinders, two heads, three sectors of one byte.
use Prim.Native.Nat.{ℕ, ◌+◌, ◌*◌}
use mathlib.Core.Path.{◌≡◌, refl}
use mathlib.Core.Bool.{Bool, true, false}
use mathlib.Core.List.{List, [], ◌∷◌, ◌++◌, map}
use lib.ListN.{set, replicate}
use Rattle.base.specs.Pick.{pick}
use Rattle.base.specs.Part.{part, splice, rows}
use Rattle.base.specs.First.{first_from, first_below, is_some, some_below, every_below}
use Rattle.base.specs.Same.{same_bytes}
use Rattle.geometry.specs.declared.params.Lba.{Lba}
use Rattle.geometry.specs.declared.params.Params.{Params}
use Rattle.geometry.specs.Params.{track}
use Rattle.interleave.specs.Layout.{empty_from, lay_at, place, laid, layout_of}
use Rattle.track.specs.declared.state.State.{State}
use Rattle.track.specs.declared.state.State.TheVariants.{Sound, Bad, Moved, Taken}
use Rattle.track.specs.Id.{id_bytes, id_in, id_for, own_id, with_sector}
use Rattle.track.specs.State.{flag_of, partner_of}
use Rattle.track.specs.Image.{track_bytes, with_track, slot_id, slot_data, with_data, first_id}
use Rattle.track.specs.Find.{Sector}
use Rattle.track.specs.Find.{Slot, Fault}
use Rattle.track.specs.Find.{taken_by, where_by, where_of, holds, slot_used, sector_in, sector_from, sector_found}
use Rattle.track.specs.Pair.{state_by, state_of, one_below, splits, pair_split}
use Rattle.formatter.specs.Format.{slot_made, slots_made, formatted}
use Rattle.formatter.specs.Check.{id_is, ids_are, home_state, checked_on, check_code}
use Rattle.sectors.specs.Transfer.{begun, ended, read_slot, write_slot, onward, found, reading, writing}

unfoldable pub p : Params
p = record { cylinders = 2; heads = 2; sectors = 3; size = 1 }

unfoldable pub slot : (a b c d e f g h i : ℕ) → List ℕ
slot a b c d e f g h i = a ∷ b ∷ c ∷ d ∷ e ∷ f ∷ g ∷ h ∷ i ∷ []

-- ---- Track 0 sound, 1 bad, 2 moved to 3, 3 taken by 2; interleave 2, so that sectors 0, 2, 1 are in slots 0, 1, 2
unfoldable pub whole : List ℕ
whole =
    replicate 16 0xEE
    ++ slot 0xA1 0 0 0 0 0 0 0 0x6C ++ slot 0xA1 0 0 0 2 0 0 0 0x6C ++ slot 0xA1 0 0 0 1 0 0 0 0x6C
    ++ slot 0xA1 0 0 1 0 1 0 0 0x6C ++ slot 0xA1 0 0 1 2 1 0 0 0x6C ++ slot 0xA1 0 0 1 1 1 0 0 0x6C
    ++ slot 0xA1 0 1 0 0 2 0 3 0x6C ++ slot 0xA1 0 1 0 2 2 0 3 0x6C ++ slot 0xA1 0 1 0 1 2 0 3 0x6C
    ++ slot 0xA1 0 1 1 0 3 0 2 0x6C ++ slot 0xA1 0 1 1 2 3 0 2 0x6C ++ slot 0xA1 0 1 1 1 3 0 2 0x6C

made : (t : ℕ) → State → List ℕ → List ℕ
made t state image = with_track p (track t) (formatted p (track t) state (layout_of 3 2) (0x6C ∷ [])) image

formats : made 0 Sound (made 3 (Taken (track 2)) (made 2 (Moved (track 3)) (made 1 Bad (replicate 124 0xEE)))) ≡ whole
unfolding p slot whole made with_track splice formatted slots_made slot_made rows with_sector id_bytes id_for flag_of partner_of
    layout_of laid place lay_at empty_from pick
formats = refl

-- byte i of slot k of track t is v
unfoldable pub hurt : (t k i v : ℕ) → List ℕ → List ℕ
hurt t k i v image = set image (16 + t * 27 + k * 9 + i) v

-- ---- Finding: a sector of a track of an image, and what is found
record Case : Type 0 where
  image : List ℕ
  at : ℕ
  sector : ℕ
  is : Sector

finds : List ℕ → (t s : ℕ) → Sector → Case
finds image t s is = record { image = image; at = t; sector = s; is = is }

-- by slot 0
faults : List Case
faults =
    finds whole 1 0 (Fault 0x19)
    ∷ finds whole 3 1 (Fault 0x1C)
    -- mark; cylinder and head; flag: each before the next
    ∷ finds (hurt 0 0 0 0xA0 whole) 0 1 (Fault 0x12)
    ∷ finds (hurt 0 0 1 1 whole) 0 1 (Fault 0x15)
    ∷ finds (hurt 0 0 2 1 whole) 0 1 (Fault 0x15)
    ∷ finds (hurt 0 0 3 1 whole) 0 1 (Fault 0x15)
    ∷ finds (hurt 0 0 5 4 whole) 0 1 (Fault 0x10)
    ∷ finds (hurt 0 0 5 0xFF whole) 0 1 (Fault 0x10)
    ∷ finds (hurt 0 0 5 1 whole) 0 1 (Fault 0x19)
    ∷ finds (hurt 0 0 5 3 whole) 0 1 (Fault 0x1C)
    ∷ finds (hurt 0 0 0 0 (hurt 0 0 3 1 whole)) 0 1 (Fault 0x12)
    ∷ finds (hurt 0 0 3 1 (hurt 0 0 5 4 whole)) 0 1 (Fault 0x15)
    ∷ finds (hurt 1 0 2 1 whole) 1 1 (Fault 0x15)
    ∷ finds (hurt 3 0 3 0 whole) 3 1 (Fault 0x15)
    -- moved: the partner is no track of the drive, by its low byte or its high one; a sound track; track 2 itself
    ∷ finds (hurt 2 0 7 4 whole) 2 1 (Fault 0x1E)
    ∷ finds (hurt 2 0 6 1 whole) 2 1 (Fault 0x1E)
    ∷ finds (hurt 2 0 7 0 whole) 2 1 (Fault 0x1E)
    ∷ finds (hurt 2 0 7 2 whole) 2 1 (Fault 0x1E)
    -- the partner's mark, cylinder, head, flag, and its partner
    ∷ finds (hurt 3 0 0 0 whole) 2 1 (Fault 0x1E)
    ∷ finds (hurt 3 0 1 1 whole) 2 1 (Fault 0x1E)
    ∷ finds (hurt 3 0 2 0 whole) 2 1 (Fault 0x1E)
    ∷ finds (hurt 3 0 3 0 whole) 2 1 (Fault 0x1E)
    ∷ finds (hurt 3 0 5 0 whole) 2 1 (Fault 0x1E)
    ∷ finds (hurt 3 0 5 2 whole) 2 1 (Fault 0x1E)
    ∷ finds (hurt 3 0 5 4 whole) 2 1 (Fault 0x1E)
    ∷ finds (hurt 3 0 6 1 whole) 2 1 (Fault 0x1E)
    ∷ finds (hurt 3 0 7 0 whole) 2 1 (Fault 0x1E)
    ∷ []

-- by the search; no other byte of an ID plays a part
searched : List Case
searched =
    finds whole 0 0 (Slot (track 0) 0)
    ∷ finds whole 0 1 (Slot (track 0) 2)
    ∷ finds whole 2 1 (Slot (track 3) 2)
    ∷ finds whole 2 2 (Slot (track 3) 1)
    ∷ finds (hurt 0 2 0 0 whole) 0 1 (Fault 0x14)
    ∷ finds (hurt 0 2 4 7 whole) 0 1 (Fault 0x14)
    ∷ finds (hurt 0 2 4 7 whole) 0 7 (Slot (track 0) 2)
    ∷ finds (hurt 3 2 4 7 whole) 2 1 (Fault 0x14)
    ∷ finds (hurt 2 2 4 7 whole) 2 1 (Slot (track 3) 2)
    ∷ finds (hurt 0 0 4 9 whole) 0 0 (Fault 0x14)
    ∷ finds (hurt 0 0 4 9 whole) 0 1 (Slot (track 0) 2)
    ∷ finds (hurt 0 0 6 1 (hurt 0 0 7 1 whole)) 0 1 (Slot (track 0) 2)
    ∷ finds (hurt 0 2 1 1 (hurt 0 2 2 1 (hurt 0 2 3 1 (hurt 0 2 5 1 whole)))) 0 1 (Slot (track 0) 2)
    ∷ []

found_in : List Case → List Sector
found_in = map (λ (c : Case). sector_found p (track c.at) c.sector c.image)

finding : (found_in faults ≡ map (λ (c : Case). c.is) faults)
    × (found_in searched ≡ map (λ (c : Case). c.is) searched)
unfolding p slot whole hurt finds faults searched found_in sector_found sector_from sector_in slot_used holds where_of where_by taken_by own_id first_id id_in
    track_bytes slot_id part first_below first_from pick
finding = (refl, refl)

-- ---- Slots 0 and 2 of track 0 both have sector 0, slots 1 and 2 of track 3, where track 2 is, sector 2
doubled : List ℕ
doubled = hurt 0 2 4 0 (hurt 3 2 4 2 whole)

-- the first of two, on the track itself and on the partner; the first that has A1h too; no slot has sector 1
duplicates : List Case
duplicates =
    finds doubled 0 0 (Slot (track 0) 0)
    ∷ finds doubled 2 2 (Slot (track 3) 1)
    ∷ finds (hurt 3 1 0 0 doubled) 2 2 (Slot (track 3) 2)
    ∷ finds doubled 0 1 (Fault 0x14)
    ∷ finds doubled 2 1 (Fault 0x14)
    ∷ []

finding_first : found_in duplicates ≡ map (λ (c : Case). c.is) duplicates
unfolding p slot whole hurt doubled finds duplicates found_in sector_found sector_from sector_in slot_used holds where_of where_by taken_by own_id first_id id_in
    track_bytes slot_id part first_below first_from pick
finding_first = refl

lba : ℕ → Lba
lba a = record { 0 = a }

-- a Write changes the first of two, on the track itself and on the partner, and a Read then hands it over
one_slot : ((writing p 1 (lba 0) (7 ∷ []) (begun doubled)).image ≡ hurt 0 0 8 7 doubled)
    × ((writing p 1 (lba 8) (7 ∷ []) (begun doubled)).image ≡ hurt 3 1 8 7 doubled)
    × ((reading p 1 (lba 8) (begun (hurt 3 1 8 7 doubled))).handed ≡ 7 ∷ [])
    -- up to a bad track; then a moved track's, on its partner
    × ((writing p 3 (lba 2) (7 ∷ 8 ∷ 9 ∷ []) (begun whole)).image ≡ hurt 0 1 8 7 whole)
    × ((writing p 3 (lba 6) (7 ∷ 8 ∷ 9 ∷ []) (begun whole)).image ≡ hurt 3 0 8 7 (hurt 3 1 8 9 (hurt 3 2 8 8 whole)))
unfolding p slot whole hurt doubled lba sector_found sector_from sector_in slot_used holds where_of where_by taken_by own_id first_id id_in
    track_bytes slot_id part first_below first_from pick reading read_slot slot_data writing write_slot onward found begun ended with_track with_data splice
one_slot = (refl, refl, refl, refl, refl)

-- ---- Check Track with interleave 2
check : (t : ℕ) → List ℕ → ℕ
check t image = check_code p (track t) (layout_of 3 2) image

-- with each of the 8 ID bytes of slot k of track `at` in turn changed to 9
each : (t at k : ℕ) → List ℕ
each t at k = map (λ (i : ℕ). check t (hurt at k i 9 whole)) (0 ∷ 1 ∷ 2 ∷ 3 ∷ 4 ∷ 5 ∷ 6 ∷ 7 ∷ [])

checking :
    (map (λ (t : ℕ). check t whole) (0 ∷ 1 ∷ 2 ∷ 3 ∷ []) ≡ 0 ∷ 0x19 ∷ 0 ∷ 0x1C ∷ [])
    × (map (λ (t : ℕ). check_code p (track t) (layout_of 3 1) whole) (0 ∷ 1 ∷ 2 ∷ 3 ∷ []) ≡ 0x1A ∷ 0x19 ∷ 0x1A ∷ 0x1C ∷ [])
    -- one wrong byte in the last slot, or in slot 0 where finding passes it by
    × (each 0 0 2 ≡ replicate 8 0x1A)
    × (each 0 0 0 ≡ 0x12 ∷ 0x15 ∷ 0x15 ∷ 0x15 ∷ 0x1A ∷ 0x10 ∷ 0x1A ∷ 0x1A ∷ [])
    -- of a moved track the partner's slots are compared, and not its own
    × (each 2 3 2 ≡ replicate 8 0x1A)
    × (each 2 3 0 ≡ 0x1E ∷ 0x1E ∷ 0x1E ∷ 0x1E ∷ 0x1A ∷ 0x1E ∷ 0x1E ∷ 0x1E ∷ [])
    × (each 2 2 2 ≡ replicate 8 0)
    × (each 2 2 0 ≡ 0x12 ∷ 0x15 ∷ 0x15 ∷ 0x15 ∷ 0 ∷ 0x10 ∷ 0x1E ∷ 0x1E ∷ [])
    -- data play no part
    × (check 0 (hurt 0 2 8 9 whole) ≡ 0)
unfolding p slot whole hurt check each check_code checked_on ids_are id_is home_state same_bytes every_below some_below is_some first_below first_from
    where_of where_by taken_by own_id first_id id_in track_bytes slot_id part pick with_sector id_bytes id_for flag_of partner_of
    layout_of laid place lay_at empty_from
checking = (refl, refl, refl, refl, refl, refl, refl, refl, refl)

-- ---- The format commands go by slot 0 alone
states : List ℕ → List State
states image = map (λ (t : ℕ). state_of p (track t) image) (0 ∷ 1 ∷ 2 ∷ 3 ∷ [])

split_from : List ℕ → List Bool
split_from image = map (λ (s : ℕ). pair_split p (track s) image) (0 ∷ 1 ∷ 2 ∷ 3 ∷ [])

formatting :
    (states whole ≡ Sound ∷ Bad ∷ Moved (track 3) ∷ Taken (track 2) ∷ [])
    -- mark, cylinder, head or a flag above 3: neither bad, moved nor taken
    × (states (hurt 1 0 0 0 (hurt 2 0 2 0 (hurt 3 0 3 0 whole))) ≡ Sound ∷ Sound ∷ Sound ∷ Sound ∷ [])
    × (states (hurt 0 0 5 4 (hurt 2 0 5 5 whole)) ≡ Sound ∷ Bad ∷ Sound ∷ Taken (track 2) ∷ [])
    -- a partner may be broken, or no track of the drive
    × (states (hurt 3 0 0 0 (hurt 2 0 6 1 whole)) ≡ Sound ∷ Bad ∷ Moved (track 259) ∷ Sound ∷ [])
    -- exactly one of the pair below s; one side that says so is enough; a partner past the last is not below
    × (split_from whole ≡ false ∷ false ∷ false ∷ true ∷ [])
    × (split_from (hurt 2 0 0 0 whole) ≡ false ∷ false ∷ false ∷ true ∷ [])
    × (split_from (hurt 3 0 0 0 whole) ≡ false ∷ false ∷ false ∷ true ∷ [])
    × (split_from (hurt 3 0 0 0 (hurt 2 0 6 1 whole)) ≡ false ∷ false ∷ false ∷ true ∷ [])
    × (split_from (hurt 2 0 7 0 whole) ≡ false ∷ true ∷ true ∷ true ∷ [])
    × (split_from (hurt 3 0 0 0 (hurt 2 0 0 0 whole)) ≡ replicate 4 false)
unfolding p slot whole hurt states split_from state_of state_by first_id id_in own_id track_bytes slot_id part pick pair_split splits one_below
    some_below is_some first_below first_from
formatting = (refl, refl, refl, refl, refl, refl, refl, refl, refl, refl)
