-- Copy (request E5) from and to damaged images, by the engine's definition: answer, sense, buffer, and both images byte for byte. The
-- damaged disk has sectors of one byte, the other three sectors of two, so that bytes wait and run on.
use Prim.Native.Nat.{ℕ}
use mathlib.Core.Path.{◌≡◌, refl}
use mathlib.Core.Bool.{true, false}
use mathlib.Core.List.{List, [], ◌∷◌, ◌++◌, map}
use lib.ListN.{set, replicate}
use Rattle.base.specs.Pick.{pick}
use Rattle.base.specs.Part.{part, splice}
use Rattle.base.specs.First.{first_from, first_below}
use Rattle.geometry.specs.declared.params.Params.{Params}
use Rattle.std.specs.Prelude.{Some}
use Rattle.track.specs.Id.{id_in, own_id}
use Rattle.track.specs.Image.{track_bytes, with_track, slot_id, slot_data, with_data, first_id}
use Rattle.track.specs.Find.{taken_by, where_by, where_of, holds, slot_used, sector_in, sector_from, sector_found}
use Rattle.sectors.specs.Transfer.{found}
use Rattle.contents.specs.Content.{content_in, content_of, put_in, put}
use Rattle.copying.specs.Copying.{on_by, store_in, store, stores, poured_by, copying, completed_by, completed}
use Rattle.model.specs.Block.{block_of, copy_of, count_of}
use Rattle.model.specs.Sense.{addressed, sense_of}
use Rattle.model.specs.Record.{sensed, failed, good}
use Rattle.model.specs.Copies.{CopyEffect, copy_ending, copy_left, copy_with}
use Rattle.model.specs.Engine.{image_of}
use Rattle.model.proofs.anchors.Damage.{p, slot, whole, hurt}

-- ---- Two disks
-- three sectors of two bytes
q : Params
q = record { cylinders = 1; heads = 1; sectors = 3; size = 2 }

double : (sector a b : ℕ) → List ℕ
double sector a b = 0xA1 ∷ 0 ∷ 0 ∷ 0 ∷ sector ∷ 0 ∷ 0 ∷ 0 ∷ a ∷ b ∷ []

-- its slots in the order 0, 2, 1
doubles : (a b c d e f : ℕ) → List ℕ
doubles a b c d e f = replicate 16 0xEE ++ (double 0 a b ++ (double 2 e f ++ double 1 c d))

pairs : List ℕ
pairs = doubles 31 32 33 34 35 36

-- four tracks of three sectors of one byte, in slots 0, 2 and 1: 11, 12 and 13 at addresses 0 to 2; track 1 is bad, from 3 on; 21, 22
-- and 23 at addresses 6 to 8, on track 3 to which track 2 is moved; track 3 is taken, from 9 on
singles : List ℕ
singles = hurt 0 0 8 11 (hurt 0 2 8 12 (hurt 0 1 8 13 (hurt 3 0 8 21 (hurt 3 2 8 22 (hurt 3 1 8 23 whole)))))

-- track 0: no A1h, another cylinder, a flag above 3; without sector 1, without sector 2; two of sector 0 and none of 1
unmarked : List ℕ
unmarked = hurt 0 0 0 9 singles

misplaced : List ℕ
misplaced = hurt 0 0 2 9 singles

unflagged : List ℕ
unflagged = hurt 0 0 5 9 singles

without_1 : List ℕ
without_1 = hurt 0 2 0 0 singles

without_2 : List ℕ
without_2 = hurt 0 1 0 0 singles

twice : List ℕ
twice = hurt 0 2 4 0 singles

-- track 3 does not name track 2 back
parted : List ℕ
parted = hurt 3 0 7 1 singles

-- the disk of two bytes a sector without its sector 1, whose slot begins at 16 + 2 × 10
holed : List ℕ
holed = set pairs 36 0

-- ---- How it is asked: from drive 1 to drive 2; drive 1's sense has a code, and the buffer four bytes
copies : (from to : Params) → (at count onto : ℕ) → (source target : List ℕ) → CopyEffect
copies from to at count onto source target =
    copy_with (copy_of (0x20 ∷ 0x20 ∷ 0 ∷ at ∷ count ∷ 0x40 ∷ 0 ∷ onto ∷ 0 ∷ 0 ∷ [])) (Some from) (Some to)
    (record { sense = 0x16 ∷ 0x20 ∷ 0 ∷ 0 ∷ []; config = replicate 10 0; known = true; pending = false }) (1 ∷ 2 ∷ 3 ∷ 4 ∷ [])
    ([] ∷ source ∷ target ∷ [])

-- number, status, sectors and bytes, the sense, the buffer; then the images
record Case : Type 0 where
  leaves : CopyEffect
  ends : List ℕ
  images : List (List ℕ)

ends_of : CopyEffect → List ℕ
ends_of e =
    e.ending.answer.number ∷ e.ending.answer.status ∷ e.ending.answer.sectors ∷ e.ending.answer.bytes
    ∷ (e.ending.entry.sense ++ e.buffer)

-- status, sectors, four sense bytes, the buffer's first two bytes; the other two always stay
case : CopyEffect → (status sectors a b c d front next : ℕ) → (source target : List ℕ) → Case
case leaves status sectors a b c d front next source target = record {
  leaves = leaves;
  ends = 0 ∷ status ∷ sectors ∷ 0 ∷ a ∷ b ∷ c ∷ d ∷ front ∷ next ∷ 3 ∷ 4 ∷ [];
  images = [] ∷ source ∷ target ∷ [];
}

-- no sector done: the buffer and both images stay
none : CopyEffect → (code drive at : ℕ) → (source target : List ℕ) → Case
none leaves code drive at source target = case leaves 0x22 0 code drive 0 at 1 2 source target

-- ---- From the damaged disk
out : (at count onto : ℕ) → (source : List ℕ) → CopyEffect
out at count onto source = copies p q at count onto source pairs

from_damaged : List Case
from_damaged =
    -- whole; from a moved track; three bytes fill one and a half: 23h
    case (out 0 2 0 singles) 0x20 1 0 0x20 0 0 11 12 singles (doubles 11 12 33 34 35 36)
    ∷ case (out 7 2 1 singles) 0x20 1 0 0x20 0 0 22 23 singles (doubles 31 32 22 23 35 36)
    ∷ case (out 0 3 1 singles) 0x22 2 0xA3 0x40 0 2 13 0 singles (doubles 31 32 11 12 13 0)
    -- 12h, 15h, 10h, 1Eh, and 1Ch: the source drive and the address
    ∷ none (out 1 1 0 unmarked) 0x92 0x20 1 unmarked pairs
    ∷ none (out 1 1 0 misplaced) 0x95 0x20 1 misplaced pairs
    ∷ none (out 1 1 0 unflagged) 0x90 0x20 1 unflagged pairs
    ∷ none (out 7 2 0 parted) 0x9E 0x20 7 parted pairs
    ∷ none (out 9 2 0 singles) 0x9C 0x20 9 singles pairs
    -- 14h: one byte waits and is dropped; after two a sector is done
    ∷ none (out 0 3 0 without_1) 0x94 0x20 1 without_1 pairs
    ∷ case (out 0 3 0 without_2) 0x22 1 0x94 0x20 0 2 11 12 without_2 (doubles 11 12 33 34 35 36)
    -- 19h: 12 and 13 are a sector, then track 1 is due
    ∷ case (out 1 4 2 singles) 0x22 1 0x99 0x20 0 3 12 13 singles (doubles 31 32 33 34 12 13)
    -- of two slots the first
    ∷ case (out 0 1 0 twice) 0x22 1 0xA3 0x40 0 0 11 0 twice (doubles 11 0 33 34 35 36)
    ∷ []

-- ---- Onto the damaged disk
into : (at count onto : ℕ) → (target : List ℕ) → CopyEffect
into at count onto target = copies q p at count onto pairs target

onto_damaged : List Case
onto_damaged =
    -- whole; onto a moved track
    case (into 0 1 1 singles) 0x20 2 0 0x20 0 0 32 2 pairs (hurt 0 2 8 31 (hurt 0 1 8 32 singles))
    ∷ case (into 1 1 7 singles) 0x20 2 0 0x20 0 0 34 2 pairs (hurt 3 2 8 33 (hurt 3 1 8 34 singles))
    -- 12h, 15h, 10h, 1Eh, 1Ch: the destination drive and the address
    ∷ none (into 0 1 1 unmarked) 0x92 0x40 1 pairs unmarked
    ∷ none (into 0 1 1 misplaced) 0x95 0x40 1 pairs misplaced
    ∷ none (into 0 1 1 unflagged) 0x90 0x40 1 pairs unflagged
    ∷ none (into 0 1 7 parted) 0x9E 0x40 7 pairs parted
    ∷ none (into 0 1 9 singles) 0x9C 0x40 9 pairs singles
    -- in the middle of a source sector: 14h, 19h, 1Ch; what is done stands
    ∷ case (into 0 2 0 without_1) 0x22 1 0x94 0x40 0 1 31 2 pairs (hurt 0 0 8 31 without_1)
    ∷ case (into 1 2 2 singles) 0x22 1 0x99 0x40 0 3 33 2 pairs (hurt 0 1 8 33 singles)
    ∷ case (into 1 2 8 singles) 0x22 1 0x9C 0x40 0 9 33 2 pairs (hurt 3 1 8 33 singles)
    -- of two slots the first; then sector 1 is in none
    ∷ case (into 0 1 0 twice) 0x22 1 0x94 0x40 0 1 31 2 pairs (hurt 0 0 8 31 twice)
    ∷ []

-- ---- Both damaged: sector 1 of the source is not found, nor the destination's address 1, or 3. What is due first ends it.
both_damaged : List Case
both_damaged =
    case (copies q p 0 2 0 holed without_1) 0x22 1 0x94 0x40 0 1 31 2 holed (hurt 0 0 8 31 without_1)
    ∷ case (copies q p 0 2 1 holed singles) 0x22 2 0x94 0x20 0 1 32 2 holed (hurt 0 2 8 31 (hurt 0 1 8 32 singles))
    -- from one byte to two: the destination is searched for once it has both
    ∷ none (copies p q 0 3 1 without_2 holed) 0x94 0x40 1 without_2 holed
    ∷ none (copies p q 0 2 1 without_1 holed) 0x94 0x20 1 without_1 holed
    -- a part of a sector that is not there: no 23h
    ∷ none (copies p q 0 1 1 singles holed) 0x94 0x40 1 singles holed
    ∷ []

got : List Case → List (List ℕ)
got = map (λ (c : Case). ends_of c.leaves)

ended : List Case → List (List ℕ)
ended = map (λ (c : Case). c.ends)

kept : List Case → List (List (List ℕ))
kept = map (λ (c : Case). c.leaves.images)

stand : List Case → List (List (List ℕ))
stand = map (λ (c : Case). c.images)

copied_there : (got from_damaged ≡ ended from_damaged) × (kept from_damaged ≡ stand from_damaged)
    × (got onto_damaged ≡ ended onto_damaged) × (kept onto_damaged ≡ stand onto_damaged)
    × (got both_damaged ≡ ended both_damaged) × (kept both_damaged ≡ stand both_damaged)
unfolding q double doubles pairs singles unmarked misplaced unflagged without_1 without_2 twice parted holed copies ends_of case none out
    from_damaged into onto_damaged both_damaged got ended kept stand p slot whole hurt copy_with copy_left copy_ending failed good sensed addressed
    sense_of copy_of block_of count_of image_of part splice pick first_from first_below id_in own_id track_bytes with_track slot_id slot_data with_data first_id
    taken_by where_by where_of holds slot_used sector_in sector_from sector_found found content_in content_of put_in put on_by store_in store stores poured_by
    copying completed_by completed
copied_there = (refl, refl, refl, refl, refl, refl)
