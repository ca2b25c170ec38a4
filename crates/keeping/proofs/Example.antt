-- A move byte by byte, computed by hand: one cylinder, three heads, three sectors of two bytes; track 1 to track 2, with interleave 2.
use Prim.Native.Nat.{ℕ}
use mathlib.Core.Path.{◌≡◌, refl}
use mathlib.Core.List.{List, [], ◌∷◌, ◌++◌, map}
use native.Mathlib.Omega.{arith}
use lib.ListN.{replicate}
use Rattle.base.specs.Pick.{pick}
use Rattle.base.specs.Part.{part, splice}
use Rattle.base.specs.First.{first_from, first_below}
use Rattle.geometry.specs.declared.params.Params.{Params}
use Rattle.geometry.specs.Params.{track}
use Rattle.interleave.specs.Layout.{empty_from, lay_at, place, laid, layout_of}
use Rattle.track.specs.declared.state.State.TheVariants.{Sound, Moved, Taken}
use Rattle.track.specs.State.{flag_of, partner_of}
use Rattle.track.specs.Id.{id_bytes, id_in, id_for, own_id}
use Rattle.track.specs.Image.{track_bytes, slot_id, slot_data, first_id}
use Rattle.track.specs.Find.{taken_by, where_by, where_of, holds, slot_used, sector_in, sector_from, sector_found}
use Rattle.track.specs.Pair.{state_by, state_of}
use Rattle.sectors.specs.Transfer.{found}
use Rattle.contents.specs.Content.{Content, Bytes, Missing, read_bytes, content_in, content_at, content_of}
use Rattle.keeping.specs.Power.{new_bytes, with_bytes, may_tear, torn, finished, Interrupted}
use Rattle.keeping.specs.Keep.{Id, Body, code_of, first_missing, keep_code, after_write, write_with, write_of, after_writes, kept}

p : Params
p = record { cylinders = 1; heads = 3; sectors = 3; size = 2 }

slot : (a b c d e f g h i j : ℕ) → List ℕ
slot a b c d e f g h i j = a ∷ b ∷ c ∷ d ∷ e ∷ f ∷ g ∷ h ∷ i ∷ j ∷ []

-- a slot of track 1 and of track 2: sector, flag, partner, data
of_a : (s flag partner x y : ℕ) → List ℕ
of_a s flag partner x y = slot 0xA1 0 0 1 s flag 0 partner x y

of_b : (s flag partner x y : ℕ) → List ℕ
of_b s flag partner x y = slot 0xA1 0 0 2 s flag 0 partner x y

-- label; track 0, which has no sector 1; tracks 1 and 2, slot by slot
image : (a b c d e f : List ℕ) → List ℕ
image a b c d e f =
    replicate 16 0xEE ++ (slot 0xA1 0 0 0 0 0 0 0 1 2 ++ slot 0xFF 0 0 0 1 0 0 0 3 4 ++ slot 0xA1 0 0 0 2 0 0 0 5 6) ++ (a ++ b ++ c) ++ (d ++ e ++ f)

-- track 1 has sectors 1, 2, 0 in its slots; track 2 is sound, with sectors 0, 1, 2
old : List ℕ
old = image (of_a 1 0 0 11 12) (of_a 2 0 0 21 22) (of_a 0 0 0 31 32) (of_b 0 0 0 7 7) (of_b 1 0 0 8 8) (of_b 2 0 0 9 9)

-- with interleave 2 slots 0, 1, 2 have sectors 0, 2, 1
after : ℕ → List ℕ
after i = after_writes p (track 1) (track 2) (layout_of 3 2) old i

-- ---- the image after each single step
steps : map after (0 ∷ 1 ∷ 2 ∷ 3 ∷ 4 ∷ 5 ∷ 6 ∷ 7 ∷ 8 ∷ 9 ∷ [])
    ≡ old
    -- track 2, slot after slot: the ID, which says that track 1 has taken it, then the data of that sector of track 1
    ∷ image (of_a 1 0 0 11 12) (of_a 2 0 0 21 22) (of_a 0 0 0 31 32) (of_b 0 3 1 7 7) (of_b 1 0 0 8 8) (of_b 2 0 0 9 9)
    ∷ image (of_a 1 0 0 11 12) (of_a 2 0 0 21 22) (of_a 0 0 0 31 32) (of_b 0 3 1 31 32) (of_b 1 0 0 8 8) (of_b 2 0 0 9 9)
    ∷ image (of_a 1 0 0 11 12) (of_a 2 0 0 21 22) (of_a 0 0 0 31 32) (of_b 0 3 1 31 32) (of_b 2 3 1 8 8) (of_b 2 0 0 9 9)
    ∷ image (of_a 1 0 0 11 12) (of_a 2 0 0 21 22) (of_a 0 0 0 31 32) (of_b 0 3 1 31 32) (of_b 2 3 1 21 22) (of_b 2 0 0 9 9)
    ∷ image (of_a 1 0 0 11 12) (of_a 2 0 0 21 22) (of_a 0 0 0 31 32) (of_b 0 3 1 31 32) (of_b 2 3 1 21 22) (of_b 1 3 1 9 9)
    ∷ image (of_a 1 0 0 11 12) (of_a 2 0 0 21 22) (of_a 0 0 0 31 32) (of_b 0 3 1 31 32) (of_b 2 3 1 21 22) (of_b 1 3 1 11 12)
    -- track 1: slot 0's ID, then the others; its data stay, under IDs that no longer tell of them
    ∷ image (of_a 0 2 2 11 12) (of_a 2 0 0 21 22) (of_a 0 0 0 31 32) (of_b 0 3 1 31 32) (of_b 2 3 1 21 22) (of_b 1 3 1 11 12)
    ∷ image (of_a 0 2 2 11 12) (of_a 2 2 2 21 22) (of_a 0 0 0 31 32) (of_b 0 3 1 31 32) (of_b 2 3 1 21 22) (of_b 1 3 1 11 12)
    ∷ image (of_a 0 2 2 11 12) (of_a 2 2 2 21 22) (of_a 1 2 2 31 32) (of_b 0 3 1 31 32) (of_b 2 3 1 21 22) (of_b 1 3 1 11 12)
    ∷ []
unfolding p slot of_a of_b image old after layout_of laid place lay_at empty_from after_writes after_write write_of write_with pick splice part content_at content_in read_bytes sector_found sector_from sector_in where_of
    where_by first_id slot_id slot_data track_bytes id_in own_id taken_by slot_used first_below first_from holds id_bytes id_for flag_of partner_of
steps = refl

-- ---- what the addresses of tracks 0 and 1 read
reads : List ℕ → List Content
reads x = map (λ (a : ℕ). content_of p (record { 0 = a }) x) (0 ∷ 1 ∷ 2 ∷ 3 ∷ 4 ∷ 5 ∷ [])

as_before : List Content
as_before = Bytes (1 ∷ 2 ∷ []) ∷ Missing 0x14 ∷ Bytes (5 ∷ 6 ∷ []) ∷ Bytes (31 ∷ 32 ∷ []) ∷ Bytes (11 ∷ 12 ∷ []) ∷ Bytes (21 ∷ 22 ∷ []) ∷ []

-- after each step, which is an ID old or new as a whole; and with each of the three data writes torn
all_read :
    (map (λ (i : ℕ). reads (after i)) (0 ∷ 1 ∷ 2 ∷ 3 ∷ 4 ∷ 5 ∷ 6 ∷ 7 ∷ 8 ∷ 9 ∷ []) ≡ replicate 10 as_before)
    × (map reads (after_write p (Body (track 2) 0 (98 ∷ 99 ∷ [])) (after 1) ∷ after_write p (Body (track 2) 1 (21 ∷ 99 ∷ [])) (after 3) ∷ after_write p (Body (track 2) 2 (0 ∷ 0 ∷ [])) (after 5) ∷ [])
    ≡ replicate 3 as_before)
unfolding reads as_before content_of found p slot of_a of_b image old after layout_of laid place lay_at empty_from after_writes after_write write_of write_with pick splice part content_at content_in read_bytes sector_found sector_from sector_in where_of
    where_by first_id slot_id slot_data track_bytes id_in own_id taken_by slot_used first_below first_from holds id_bytes id_for flag_of partner_of
all_read = (refl, refl)

-- ---- sent again: track 2 is taken by track 1, which has all its sectors, and the move ends as if it had not been cut
half : List ℕ
half = after_write p (Body (track 2) 1 (98 ∷ 99 ∷ [])) (after 3)

sent_again : (state_of p (track 1) half ≡ Sound) × (state_of p (track 2) half ≡ Taken (track 1)) × (keep_code p (track 1) half ≡ 0)
    × (kept p (track 1) (track 2) (layout_of 3 2) half ≡ after 9)
unfolding half kept keep_code first_missing code_of state_of state_by p slot of_a of_b image old after layout_of laid place lay_at empty_from after_writes after_write write_of write_with pick splice part content_at content_in read_bytes sector_found sector_from sector_in where_of
    where_by first_id slot_id slot_data track_bytes id_in own_id taken_by slot_used first_below first_from holds id_bytes id_for flag_of partner_of
sent_again = (refl, refl, refl, refl)

-- it is what power can leave, at write 3; and so is the end, at the last write
half_cut : Interrupted p (track 1) (track 2) (layout_of 3 2) old half
unfolding half new_bytes with_bytes may_tear p slot of_a of_b image old after layout_of laid place lay_at empty_from after_writes after_write write_of write_with pick splice part content_at content_in read_bytes sector_found sector_from sector_in where_of
    where_by first_id slot_id slot_data track_bytes id_in own_id taken_by slot_used first_below first_from holds id_bytes id_for flag_of partner_of
half_cut = record { i = 3; within = omega arith; cut = torn (98 ∷ 99 ∷ []) refl refl refl }

whole_cut : Interrupted p (track 1) (track 2) (layout_of 3 2) old (after 9)
unfolding after after_writes p
whole_cut = record { i = 8; within = omega arith; cut = finished refl }

-- once slot 0 of track 1 is written it is moved; track 0 is refused for its sector 1
settled : (map (λ (i : ℕ). state_of p (track 1) (after i)) (6 ∷ 7 ∷ []) ≡ Sound ∷ Moved (track 2) ∷ []) × (keep_code p (track 0) old ≡ 0x14)
unfolding keep_code first_missing code_of state_of state_by p slot of_a of_b image old after layout_of laid place lay_at empty_from after_writes after_write write_of write_with pick splice part content_at content_in read_bytes sector_found sector_from sector_in where_of
    where_by first_id slot_id slot_data track_bytes id_in own_id taken_by slot_used first_below first_from holds id_bytes id_for flag_of partner_of
settled = (refl, refl)

-- ---- why the order is what it is: the same writes in another order lose sectors of track 1
lost :
    -- its slot 0 before track 2 has all data: sector 1 is another's
    (reads (after_write p (write_of p (track 1) (track 2) (layout_of 3 2) old 6) (after 5))
    ≡ Bytes (1 ∷ 2 ∷ []) ∷ Missing 0x14 ∷ Bytes (5 ∷ 6 ∷ []) ∷ Bytes (31 ∷ 32 ∷ []) ∷ Bytes (9 ∷ 9 ∷ []) ∷ Bytes (21 ∷ 22 ∷ []) ∷ [])
    -- its slot 2 before its slot 0: sector 0 is gone
    × (reads (after_write p (write_of p (track 1) (track 2) (layout_of 3 2) old 8) (after 6))
    ≡ Bytes (1 ∷ 2 ∷ []) ∷ Missing 0x14 ∷ Bytes (5 ∷ 6 ∷ []) ∷ Missing 0x14 ∷ Bytes (11 ∷ 12 ∷ []) ∷ Bytes (21 ∷ 22 ∷ []) ∷ [])
    -- its slot 0 torn before the partner, were it not old or new as a whole: all are gone
    × (reads (after_write p (Id (track 1) 0 (0xA1 ∷ 0 ∷ 0 ∷ 1 ∷ 0 ∷ 2 ∷ 0 ∷ 0 ∷ [])) (after 6))
    ≡ Bytes (1 ∷ 2 ∷ []) ∷ Missing 0x14 ∷ Bytes (5 ∷ 6 ∷ []) ∷ Missing 0x1E ∷ Missing 0x1E ∷ Missing 0x1E ∷ [])
unfolding reads content_of found p slot of_a of_b image old after layout_of laid place lay_at empty_from after_writes after_write write_of write_with pick splice part content_at content_in read_bytes sector_found sector_from sector_in where_of
    where_by first_id slot_id slot_data track_bytes id_in own_id taken_by slot_used first_below first_from holds id_bytes id_for flag_of partner_of
lost = (refl, refl, refl)
