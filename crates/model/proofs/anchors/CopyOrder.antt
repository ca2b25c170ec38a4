-- Copy (request E5): how long a block is, its fields, and the order of checks of two drives, as sense bytes written down from
-- documents 01 and 02.
use Prim.Native.Nat.{ℕ, ◌/◌, ◌%◌}
use mathlib.Core.Path.{◌≡◌, refl}
use mathlib.Core.Bool.{Bool, true, false}
use mathlib.Core.List.{List, [], ◌∷◌, map}
use lib.ListN.{replicate}
use Rattle.base.specs.Pick.{pick}
use Rattle.base.specs.Part.{part}
use Rattle.base.specs.Same.{same_bytes}
use Rattle.geometry.specs.declared.medium.Medium.{Medium}
use Rattle.geometry.specs.declared.medium.Medium.TheVariants.{HardDisk, Floppy}
use Rattle.geometry.specs.Medium.{medium_of, is_floppy, is_in, ranges_of}
use Rattle.geometry.specs.Config.{size_for, fitted_to, fields_in, setting_by, setting_of, is_valid, label_setting}
use Rattle.model.specs.Verdicts.{Verdict}
use Rattle.model.specs.Verdicts.{Refused, Faulty, Passed}
use Rattle.model.specs.Verdicts.{Judgement}
use Rattle.model.specs.Block.{block_of, is_copy, block_length, is_whole, copy_of, count_of}
use Rattle.model.specs.Table.{check_number, is_among, row_for}
use Rattle.model.specs.declared.verdict.View.{View}
use Rattle.model.specs.Checks.{judged, present_with, is_unknown, block_wrong, control_wrong, with_params, interleave_wrong, past_end, not_spared, size_in, bytes_of, hits_of, in_order, judge}
use Rattle.model.specs.Checks.{reach_of, filling_of, shares, saying_of, judge_copy}
use Rattle.model.specs.Sense.{addressed, sense_of}
use Rattle.model.specs.Feed.{command}
use Rattle.model.specs.Record.{blank_drive, drive_at, sensed, setting_in, failed, unless_named}
use Rattle.model.specs.Engine.{image_of, view_of, obey, obey_copy, left, left_by_copy, on_drive, on_drives, execute, loaded_by, loaded, fresh}
use Rattle.model.specs.Machine.{fresh_disk, fresh_machine, setting_with, seen, ordered, ordered_copy, step, failing_on, providing_on}

-- ---- Number 1: a block that begins with 20h has not ten bytes, any other, an empty one too, not six
-- an opcode, and so many bytes behind it
bytes : (opcode behind : ℕ) → List ℕ
bytes opcode behind = opcode ∷ replicate behind 0

blocks : List (List ℕ)
blocks =
    [] ∷ bytes 0x20 0 ∷ bytes 0x20 5 ∷ bytes 0x20 8 ∷ bytes 0x20 9 ∷ bytes 0x20 10
    ∷ bytes 0x00 5 ∷ bytes 0x00 9 ∷ bytes 0x08 5 ∷ bytes 0x08 9 ∷ bytes 0x21 5 ∷ bytes 0x21 9 ∷ bytes 0xA0 5 ∷ bytes 0xA0 9
    ∷ []

-- of 20h the one of ten bytes is taken, of the others those of six
numbers : List ℕ
numbers = 1 ∷ 1 ∷ 1 ∷ 1 ∷ 0 ∷ 1 ∷ 0 ∷ 1 ∷ 0 ∷ 1 ∷ 0 ∷ 1 ∷ 0 ∷ 1 ∷ []

ten_or_six :
    (map (λ (block : List ℕ). (execute (fresh []) block [] [] []).outcome.answer.number) blocks ≡ numbers)
    × (map (λ (block : List ℕ). (step (fresh_machine (λ d. 0)) (command block [] 0)).0.number) blocks ≡ numbers)
unfolding bytes blocks numbers execute on_drive on_drives left left_by_copy obey obey_copy unless_named failed fresh step fresh_machine fresh_disk ordered
    ordered_copy seen setting_with providing_on failing_on view_of setting_in present_with pick medium_of is_floppy block_of copy_of row_for judge judge_copy
    judged saying_of filling_of in_order hits_of is_unknown block_wrong control_wrong is_among check_number is_whole block_length is_copy
    image_of
ten_or_six = (refl, refl)

-- ---- A Copy from drive 2 to drive 0, neither of which is there: 04h is in drive 2's sense, and names drive 2; drive 0's has nothing
sense_place : (d : ℕ) → List ℕ
sense_place d = (drive_at (execute (fresh []) (0x20 ∷ 0x40 ∷ replicate 8 0) [] [] []).outcome.controller d).sense

sensed_there : (sense_place 2 ≡ 0x04 ∷ 0x40 ∷ 0 ∷ 0 ∷ []) × (sense_place 0 ≡ 0 ∷ 0 ∷ 0 ∷ 0 ∷ [])
unfolding sense_place execute on_drives left_by_copy obey_copy unless_named failed sensed drive_at fresh loaded loaded_by view_of setting_in present_with pick
    medium_of is_floppy block_of copy_of row_for judge judge_copy judged saying_of filling_of in_order hits_of is_unknown block_wrong control_wrong is_among
    check_number is_whole block_length is_copy image_of part same_bytes label_setting addressed sense_of blank_drive
sensed_there = (refl, refl)

-- ---- The fields of ten bytes: bit 7 of byte 1, source drive, address, count, control; bit 7 of byte 5, destination drive, address
one : Bool → ℕ
one b = pick b 1 0

fields : (block : List ℕ) → List ℕ
fields block =
    let k = copy_of block in
    one k.from.top ∷ k.from.drive ∷ k.from.address.0 ∷ count_of k.from ∷ k.from.control
    ∷ one k.to.top ∷ k.to.drive ∷ k.to.address.0 ∷ []

ten : (b1 b2 b3 b4 b5 b6 b7 b8 b9 : ℕ) → List ℕ
ten b1 b2 b3 b4 b5 b6 b7 b8 b9 = 0x20 ∷ b1 ∷ b2 ∷ b3 ∷ b4 ∷ b5 ∷ b6 ∷ b7 ∷ b8 ∷ b9 ∷ []

copy_fields :
    -- 21h is drive 1 and address high 01, 5Fh drive 2 and 1Fh
    (fields (ten 0x21 0x23 0x45 0x07 0x5F 0xEE 0xDD 0x00 0x80) ≡ 0 ∷ 1 ∷ 0x012345 ∷ 7 ∷ 0x80 ∷ 0 ∷ 2 ∷ 0x1FEEDD ∷ [])
    -- 7Fh is drive 3 and 1Fh, 00 drive 0; count 0 is 256
    × (fields (ten 0x7F 0x01 0x02 0x00 0x00 0x03 0x04 0xFF 0x5A) ≡ 0 ∷ 3 ∷ 0x1F0102 ∷ 256 ∷ 0x5A ∷ 0 ∷ 0 ∷ 0x000304 ∷ [])
    -- bit 7 of byte 1, then of byte 5
    × (fields (ten 0xC2 0x00 0x00 0xFF 0x60 0x00 0x09 0x00 0x00) ≡ 1 ∷ 2 ∷ 0x020000 ∷ 255 ∷ 0x00 ∷ 0 ∷ 3 ∷ 0x000009 ∷ [])
    × (fields (ten 0x00 0x00 0x00 0x01 0xA1 0x10 0x00 0x00 0x20) ≡ 0 ∷ 0 ∷ 0x000000 ∷ 1 ∷ 0x20 ∷ 1 ∷ 1 ∷ 0x011000 ∷ [])
    -- the control byte goes with the source
    × ((copy_of (ten 0x00 0x00 0x00 0x01 0x20 0x00 0x00 0x00 0xFF)).to.control ≡ 0)
    -- the spare byte is nowhere
    × (copy_of (ten 0x21 0x23 0x45 0x07 0x5F 0xEE 0xDD 0x00 0x80) ≡ copy_of (ten 0x21 0x23 0x45 0x07 0x5F 0xEE 0xDD 0xFF 0x80))
unfolding one fields ten copy_of block_of count_of pick
copy_fields = (refl, refl, refl, refl, refl, refl)

-- ---- Drives of one head as the checks see them: known or not, pending or not; the image's length
drive : Medium → (config : List ℕ) → (known pending : Bool) → (image : ℕ) → View
drive medium config known pending image =
    view_of medium (record { sense = replicate 4 0; config = config; known = known; pending = pending }) image

-- so many tracks of 32 sectors of 256 bytes, of 17 of 512, of 16 of 128
of256 : (tracks : ℕ) → (known pending : Bool) → (image : ℕ) → View
of256 tracks = drive HardDisk (0 ∷ tracks ∷ 1 ∷ 0 ∷ 1 ∷ 0 ∷ 0 ∷ 0 ∷ 0 ∷ 0 ∷ [])

of512 : (tracks : ℕ) → (known pending : Bool) → (image : ℕ) → View
of512 tracks = drive HardDisk (0 ∷ tracks ∷ 1 ∷ 0 ∷ 2 ∷ 0 ∷ 0 ∷ 0 ∷ 0 ∷ 0 ∷ [])

of128 : (tracks : ℕ) → (known pending : Bool) → (image : ℕ) → View
of128 tracks = drive Floppy (0 ∷ tracks ∷ 1 ∷ 1 ∷ 0 ∷ 0 ∷ 0 ∷ 0 ∷ 0 ∷ 0 ∷ [])

-- ready, in images of exactly their lengths: 32 sectors of 256 bytes, 17 of 512, 32 of 128
hard : View
hard = of256 1 true false 8464

large : View
large = of512 1 true false 8856

floppy : View
floppy = of128 2 true false 4368

-- ---- One side of a copy: how its drive is, byte 1 or 5, the address's two low bytes
record Side : Type 0 where
  view : View
  unit : ℕ
  address : ℕ

at : View → (unit address : ℕ) → Side
at view unit address = record { view = view; unit = unit; address = address }

-- the sense bytes that the checks make, none where all is passed
heard : Judgement → Verdict → List ℕ
heard j (Refused number) = number ∷ []
heard j (Faulty code address) = sense_of code j.named address
heard j Passed = []

said : (count control : ℕ) → (from to : Side) → List ℕ
said count control from to =
    let j = judge_copy (copy_of (ten from.unit (from.address / 256) (from.address % 256) count to.unit (to.address / 256) (to.address % 256) 0 control))
    from.view to.view in
    heard j j.verdict

four : (a b c d : ℕ) → List ℕ
four a b c d = a ∷ b ∷ c ∷ d ∷ []

-- ---- Two sectors of 256 bytes of drive 1 are copied to four of 128 of drive 2
-- the destination: good; then each check of its row alone, and two at once
destinations : List Side
destinations =
    at floppy 0x40 28
    -- bit 7 of byte 5, also where no image is lent
    ∷ at floppy 0xC0 28
    ∷ at (of128 2 true false 15) 0xC0 28
    -- no image; none known, or the image too short, also past the end and pending
    ∷ at (of128 2 true true 15) 0x40 99
    ∷ at (of128 2 false false 4368) 0x40 28
    ∷ at (of128 2 true true 4367) 0x40 99
    -- the fourth sector is past the end, also pending; pending
    ∷ at floppy 0x40 29
    ∷ at (of128 2 true true 4368) 0x40 29
    ∷ at (of128 2 true true 4368) 0x40 28
    ∷ []

-- where the source is good: the destination's own codes, of drive 2; only 21h has an address, the block's, 1Dh
of_destination : List (List ℕ)
of_destination =
    []
    ∷ four 0x22 0x40 0 0
    ∷ four 0x22 0x40 0 0
    ∷ four 0x04 0x40 0 0
    ∷ four 0x0A 0x40 0 0
    ∷ four 0x0A 0x40 0 0
    ∷ four 0xA1 0x40 0 0x1D
    ∷ four 0xA1 0x40 0 0x1D
    ∷ four 0x16 0x40 0 0
    ∷ []

-- a source and the control byte with every destination
with_all : (control : ℕ) → (from : Side) → List (List ℕ)
with_all control from = map (said 2 control from) destinations

-- so says the source, of drive 1, whatever the destination is
always : (a b c d : ℕ) → List (List ℕ)
always a b c d = replicate 9 (four a b c d)

source_first :
    (with_all 0x00 (at hard 0x20 30) ≡ of_destination)
    -- control bit 7 is without effect
    × (with_all 0x80 (at hard 0x20 30) ≡ of_destination)
    -- 22h: bit 7 of byte 1; a control bit, 5 too, as in 08; before 04h
    × (with_all 0x00 (at hard 0xA0 30) ≡ always 0x22 0x20 0 0)
    × (with_all 0x01 (at hard 0x20 30) ≡ always 0x22 0x20 0 0)
    × (with_all 0x20 (at hard 0x20 30) ≡ always 0x22 0x20 0 0)
    × (with_all 0x40 (at (of256 1 true true 15) 0x20 99) ≡ always 0x22 0x20 0 0)
    -- 04h; 0Ah: none known, or the image too short
    × (with_all 0x00 (at (of256 1 true true 15) 0x20 99) ≡ always 0x04 0x20 0 0)
    × (with_all 0x00 (at (of256 1 false false 8464) 0x20 30) ≡ always 0x0A 0x20 0 0)
    × (with_all 0x00 (at (of256 1 true true 8463) 0x20 99) ≡ always 0x0A 0x20 0 0)
    -- 21h: the second sector is past the end, also pending; 16h
    × (with_all 0x00 (at hard 0x20 31) ≡ always 0xA1 0x20 0 0x1F)
    × (with_all 0x00 (at (of256 1 true true 8464) 0x20 31) ≡ always 0xA1 0x20 0 0x1F)
    × (with_all 0x00 (at (of256 1 true true 8464) 0x20 30) ≡ always 0x16 0x20 0 0)
unfolding drive of256 of128 hard floppy at heard said ten four destinations of_destination with_all always
    view_of setting_in present_with medium_of is_floppy is_in ranges_of setting_of setting_by fields_in size_for fitted_to pick block_of copy_of count_of row_for
    judge_copy judge reach_of judged saying_of filling_of shares in_order hits_of is_unknown block_wrong control_wrong with_params interleave_wrong past_end
    not_spared is_valid size_in bytes_of is_among check_number addressed sense_of
source_first = (refl, refl, refl, refl, refl, refl, refl, refl, refl, refl, refl, refl)

-- ---- The destination's reach is what the bytes fill, the last sector perhaps in part: the last address that fits, and one more
fits : (count : ℕ) → (from to : Side) → List ℕ
fits count from to = said count 0 from to

reach :
    -- 512 to 128: 2 fill 8, so from 24 on of 32
    (fits 2 (at large 0x00 15) (at floppy 0x40 24) ≡ [])
    × (fits 2 (at large 0x00 15) (at floppy 0x40 25) ≡ four 0xA1 0x40 0 25)
    -- 128 to 512: 5 have 640 bytes and fill one and a quarter, so from 15 on of 17; 4 fill one
    × (fits 5 (at floppy 0x60 27) (at large 0x20 15) ≡ [])
    × (fits 5 (at floppy 0x60 27) (at large 0x20 16) ≡ four 0xA1 0x20 0 16)
    × (fits 4 (at floppy 0x60 28) (at large 0x20 16) ≡ [])
    × (fits 4 (at floppy 0x60 28) (at large 0x20 17) ≡ four 0xA1 0x20 0 17)
    -- 256 to 128: 3 fill 6
    × (fits 3 (at hard 0x20 29) (at floppy 0x60 26) ≡ [])
    × (fits 3 (at hard 0x20 29) (at floppy 0x60 27) ≡ four 0xA1 0x60 0 27)
    -- 128 to 256: 3 fill one and a half; 2 fill one
    × (fits 3 (at floppy 0x40 29) (at hard 0x00 30) ≡ [])
    × (fits 3 (at floppy 0x40 29) (at hard 0x00 31) ≡ four 0xA1 0x00 0 31)
    × (fits 2 (at floppy 0x40 30) (at hard 0x00 31) ≡ [])
    × (fits 2 (at floppy 0x40 30) (at hard 0x00 32) ≡ four 0xA1 0x00 0 32)
    -- 256 to 512: 3 fill one and a half; 512 to 256: 2 fill 4
    × (fits 3 (at hard 0x00 29) (at large 0x20 15) ≡ [])
    × (fits 3 (at hard 0x00 29) (at large 0x20 16) ≡ four 0xA1 0x20 0 16)
    × (fits 2 (at large 0x00 15) (at hard 0x20 28) ≡ [])
    × (fits 2 (at large 0x00 15) (at hard 0x20 29) ≡ four 0xA1 0x20 0 29)
    -- of one size: as many
    × (fits 3 (at floppy 0x40 29) (at floppy 0x60 29) ≡ [])
    × (fits 3 (at floppy 0x40 29) (at floppy 0x60 30) ≡ four 0xA1 0x60 0 30)
    -- the source's is its count
    × (fits 3 (at floppy 0x40 30) (at floppy 0x60 30) ≡ four 0xA1 0x40 0 30)
    × (fits 3 (at large 0x00 14) (at hard 0x20 0) ≡ [])
    × (fits 3 (at large 0x00 15) (at hard 0x20 0) ≡ four 0xA1 0x00 0 15)
unfolding drive of256 of512 of128 hard large floppy at heard said ten four fits
    view_of setting_in present_with medium_of is_floppy is_in ranges_of setting_of setting_by fields_in size_for fitted_to pick block_of copy_of count_of row_for
    judge_copy judge reach_of judged saying_of filling_of shares in_order hits_of is_unknown block_wrong control_wrong with_params interleave_wrong past_end
    not_spared is_valid size_in bytes_of is_among check_number addressed sense_of
reach = (refl, refl, refl, refl, refl, refl, refl, refl, refl, refl, refl, refl, refl, refl, refl, refl, refl, refl, refl, refl, refl)

-- ---- Count 0 is 256: 256 sectors of 256 bytes fill 512 of 128, 256 of 512 bytes fill 1,024; 255 of 256 bytes fill 510
hard256 : View
hard256 = of256 8 true false 67600

floppy512 : View
floppy512 = of128 32 true false 69648

many :
    (fits 0 (at hard256 0x20 0) (at floppy512 0x40 0) ≡ [])
    × (fits 0 (at hard256 0x20 0) (at floppy512 0x40 1) ≡ four 0xA1 0x40 0 1)
    × (fits 0 (at hard256 0x20 1) (at floppy512 0x40 0) ≡ four 0xA1 0x20 0 1)
    × (fits 255 (at hard256 0x20 1) (at floppy512 0x40 2) ≡ [])
    × (fits 255 (at hard256 0x20 1) (at floppy512 0x40 3) ≡ four 0xA1 0x40 0 3)
    × (fits 255 (at hard256 0x20 2) (at floppy512 0x40 2) ≡ four 0xA1 0x20 0 2)
    × (fits 0 (at (of512 16 true false 141456) 0x20 16) (at (of128 64 true false 139280) 0x40 0) ≡ [])
    × (fits 0 (at (of512 16 true false 141456) 0x20 16) (at (of128 64 true false 139280) 0x40 1) ≡ four 0xA1 0x40 0 1)
    × (fits 0 (at (of512 16 true false 141456) 0x20 17) (at (of128 64 true false 139280) 0x40 0) ≡ four 0xA1 0x20 0 17)
unfolding drive of256 of512 of128 hard256 floppy512 at heard said ten four fits
    view_of setting_in present_with medium_of is_floppy is_in ranges_of setting_of setting_by fields_in size_for fitted_to pick block_of copy_of count_of row_for
    judge_copy judge reach_of judged saying_of filling_of shares in_order hits_of is_unknown block_wrong control_wrong with_params interleave_wrong past_end
    not_spared is_valid size_in bytes_of is_among check_number addressed sense_of
many = (refl, refl, refl, refl, refl, refl, refl, refl, refl)

-- ---- 22h where both share a sector, with no address and of the source drive: on drive 1, sectors 5, 6 and 7 are copied to these
shared : (onto : ℕ) → List ℕ
shared onto = fits 3 (at hard 0x20 5) (at hard 0x20 onto)

no_address : List ℕ
no_address = four 0x22 0x20 0 0

-- 512 sectors
wide : View
wide = of256 16 true false 135184

sharing :
    -- up against them on either side; sharing one, more and all
    (map shared (1 ∷ 2 ∷ 8 ∷ 9 ∷ []) ≡ replicate 4 [])
    × (map shared (3 ∷ 4 ∷ 5 ∷ 6 ∷ 7 ∷ []) ≡ replicate 5 no_address)
    -- one sector to its neighbours and to itself
    × (map (λ (onto : ℕ). fits 1 (at hard 0x20 5) (at hard 0x20 onto)) (4 ∷ 5 ∷ 6 ∷ []) ≡ [] ∷ no_address ∷ [] ∷ [])
    -- the same addresses of two drives; of one floppy
    × (fits 3 (at hard 0x20 5) (at hard 0x00 5) ≡ [])
    × (fits 3 (at floppy 0x40 5) (at floppy 0x60 5) ≡ [])
    × (fits 3 (at floppy 0x60 5) (at floppy 0x60 7) ≡ four 0x22 0x60 0 0)
    -- count 0: up against 256 sectors, and sharing one, either way
    × (map (λ (onto : ℕ). fits 0 (at wide 0x20 0) (at wide 0x20 onto)) (255 ∷ 256 ∷ []) ≡ no_address ∷ [] ∷ [])
    × (map (λ (from : ℕ). fits 0 (at wide 0x20 from) (at wide 0x20 0)) (255 ∷ 256 ∷ []) ≡ no_address ∷ [] ∷ [])
    -- the destination's 21h comes before it: 29 to 31 are copied to 30 to 32
    × (fits 3 (at hard 0x20 29) (at hard 0x20 30) ≡ four 0xA1 0x20 0 30)
unfolding drive of256 of128 hard floppy at heard said ten four fits shared no_address wide
    view_of setting_in present_with medium_of is_floppy is_in ranges_of setting_of setting_by fields_in size_for fitted_to pick block_of copy_of count_of row_for
    judge_copy judge reach_of judged saying_of filling_of shares in_order hits_of is_unknown block_wrong control_wrong with_params interleave_wrong past_end
    not_spared is_valid size_in bytes_of is_among check_number addressed sense_of
sharing = (refl, refl, refl, refl, refl, refl, refl, refl, refl)
