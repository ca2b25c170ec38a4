-- What follows from the claim for zero images: the engine answers the worked sessions as written, and what was saved is found.
use Prim.Native.Nat.{ℕ, zero, suc, ◌+◌, ◌*◌, ◌<◌}
use mathlib.Core.Path.{◌≡◌, refl, sym, ap, ap₂, subst, ◌∙◌}
use mathlib.Core.Bool.{Bool, true, false}
use mathlib.Core.Option.{some}
use mathlib.Core.List.{List, [], ◌∷◌, ◌++◌, map}
use native.Mathlib.Omega.{arith}
use lib.ListN.{length, take, get_or, replicate, length-replicate}
use lib.Dec.{leb}
use Rattle.base.specs.Pick.{pick}
use Rattle.base.specs.Part.{part}
use Rattle.base.specs.Same.{same_bytes}
use Rattle.base.proofs.Decide.{pick-both}
use Rattle.geometry.specs.declared.params.Lba.{Lba}
use Rattle.geometry.specs.declared.params.Track.{Track}
use Rattle.geometry.specs.declared.params.Params.{Params}
use Rattle.geometry.specs.declared.medium.Medium.{Medium}
use Rattle.geometry.specs.declared.medium.Medium.TheVariants.{HardDisk, Floppy}
use Rattle.geometry.specs.Config.{Setting}
use Rattle.std.specs.Prelude.{Some, None}
use Rattle.geometry.specs.Params.{track_of, sector_of}
use Rattle.geometry.specs.Medium.{medium_of, is_floppy, is_in, ranges_of}
use Rattle.geometry.specs.Config.{size_for, fitted_to, fields_in, setting_by, setting_of, is_valid, label_setting}
use Rattle.track.specs.Image.{track_bytes, slot_data}
use Rattle.track.specs.Find.{Slot}
use Rattle.track.specs.Find.{sector_found}
use Rattle.sectors.specs.Transfer.{found}
use Rattle.contents.specs.Content.{Bytes, content_in, content_of}
use Rattle.model.specs.Block.{block_of, count_of, from_buffer, keeps, is_whole, block_length, is_copy}
use Rattle.model.specs.Table.{check_number, is_among, row_for}
use Rattle.model.specs.Checks.{judged, present_with, is_unknown, block_wrong, control_wrong, with_params, interleave_wrong, past_end, not_spared, size_in, bytes_of, reach_of, hits_of, in_order, judge}
use Rattle.model.specs.Sense.{addressed, sense_of}
use Rattle.model.specs.Feed.{Feed, reset, command, Reply}
use Rattle.model.specs.Engine.{images_of, image_of}
use Rattle.model.specs.Machine.{Disk, Machine, fresh_disk, fresh_machine, changed, with_sense, with_buffer, with_disk, in_force, becomes, filled, storing, failing_on, providing_on}
use Rattle.model.specs.Machine.{well}
use Rattle.model.specs.Machine.{is_bad, is_moved, is_taken, denied, paired, parted, parted_by, some_parted, address_given, unassignable}
use Rattle.model.specs.Machine.{finished, with_first, passing, read_from, write_from, inARow, leaving, transfer_by, transfer}
use Rattle.model.specs.Machine.{filling_on, filling, from_on, reformatted}
use Rattle.model.specs.Machine.{format_drive, check_track, format_track, format_bad_track, read, write, moving, assign_to, assign_alternate, is_stored, initialize_by}
use Rattle.model.specs.Machine.{freely, seeking, on_tracks, on_sectors, with_parameters, carried, setting_with, seen, ordered, restored, step}
use Rattle.model.specs.Claim.{replies, at_end, Call, Reset, Command as Commanded, fed, engine_replies, engine_at_end}
use Rattle.model.specs.Claim.{begin, begin_machine, is_held, Holds, Claim}
use Rattle.model.proofs.claim.Claimed.{claimed}
use Rattle.model.proofs.anchors.Session.{Line, all_told, lengths_of, Answers, six, config, session, worked}
use Rattle.model.proofs.anchors.Floppies.{lacking, mistaking, formatting, transferring, marking, worked as floppies-worked}
use Rattle.model.proofs.anchors.Leaves.{leaves, after_start, well_done, tracks_made, moved_bytes, cut_short, at_fault, in_pairs, in_order_lem, turned_away, reset_all, with_contents}

-- ---- Zeros are no label, of a hard disk or of a floppy: the claim holds for four zero images of any lengths
abbrev zeros : ℕ → List ℕ
zeros n = replicate n 0

zero_byte : (n i k : ℕ) → get_or (take k (zeros n)) i 0 ≡ 0
zero_byte zero i zero = refl
zero_byte zero i (suc k) = refl
zero_byte (suc n) i zero = refl
zero_byte (suc n) zero (suc k) = refl
zero_byte (suc n) (suc i) (suc k) = zero_byte n i k

no_cylinders : (medium : Medium) (heads step size burst image : ℕ) → setting_by medium 0 heads step size burst image ≡ None
unfolding setting_by fields_in ranges_of is_in pick
no_cylinders HardDisk heads step size burst image = refl
no_cylinders Floppy heads step size burst image = refl

zero_label : (medium : Medium) (n : ℕ) → label_setting medium (zeros n) ≡ None
unfolding label_setting setting_of part
zero_label medium n =
    let none : get_or (take 10 (zeros n)) 0 0 * 256 + get_or (take 10 (zeros n)) 1 0 ≡ 0 = omega (arith, zero_byte n 0 10, zero_byte n 1 10) in
    let none_of : Setting → Type 0 = λ s. s ≡ None in
    pick-both none_of _ _ _ (pick-both none_of _ _ _ (rw none (no_cylinders medium _ _ _ _ _)) refl) refl

module _ (n₀ n₁ n₂ n₃ : ℕ) where
  abbrev pub all_zeros : List (List ℕ)
  all_zeros = images_of (zeros n₀) (zeros n₁) (zeros n₂) (zeros n₃)

  zero_labels : (drive : ℕ) → drive < 4 → label_setting (medium_of drive) (image_of drive all_zeros) ≡ None
  unfolding image_of
  zero_labels zero h = zero_label (medium_of 0) n₀
  zero_labels (suc zero) h = zero_label (medium_of 1) n₁
  zero_labels (suc (suc zero)) h = zero_label (medium_of 2) n₂
  zero_labels (suc (suc (suc zero))) h = zero_label (medium_of 3) n₃
  zero_labels (suc (suc (suc (suc drive)))) h = absurd (omega arith)

  zero_claim : (calls : List Call)
      → let s = engine_at_end (begin all_zeros) calls in
      (engine_replies (begin all_zeros) calls ≡ replies (begin_machine all_zeros) (map fed calls))
      × ((drive : ℕ) → drive < 4
      → Holds (medium_of drive) ((at_end (begin_machine all_zeros) (map fed calls)).disks drive) (image_of drive s.images))
  unfolding Claim
  zero_claim = claimed all_zeros zero_labels

  -- so the engine answers as the machine does, line by line
  zero_length : (drive : ℕ) → length (image_of drive all_zeros) ≡ lengths_of n₀ n₁ n₂ n₃ drive
  unfolding image_of lengths_of
  zero_length zero = length-replicate n₀ 0
  zero_length (suc zero) = length-replicate n₁ 0
  zero_length (suc (suc zero)) = length-replicate n₂ 0
  zero_length (suc (suc (suc zero))) = length-replicate n₃ 0
  zero_length (suc (suc (suc (suc drive)))) = refl

  machine_same : begin_machine all_zeros ≡ fresh_machine (lengths_of n₀ n₁ n₂ n₃)
  unfolding begin_machine
  machine_same = ap fresh_machine (λ i drive. zero_length drive i)

  unfoldable pub EngineAnswers : List Line → Type 0
  EngineAnswers lines = (calls : List Call) → map fed calls ≡ map (λ (l : Line). l.call) lines
      → all_told (engine_replies (begin all_zeros) calls) lines ≡ true

  pub engine_answers : (lines : List Line) → Answers (lengths_of n₀ n₁ n₂ n₃) lines → EngineAnswers lines
  unfolding Answers EngineAnswers
  engine_answers lines answers calls is =
      ap (λ (told : List Reply). all_told told lines) ((zero_claim calls).0
      ∙ ap (replies (begin_machine all_zeros)) is ∙ ap (λ (m : Machine). replies m (map (λ (l : Line). l.call) lines)) machine_same) ∙ answers

-- every list that the machine is fed comes from calls
unfoldable pub call_of : Feed → Call
call_of reset = Reset
call_of (command block given area) = Commanded block given (zeros area)

pub fed_back : (all : List Feed) → map fed (map call_of all) ≡ all
unfolding fed call_of
fed_back [] = refl
fed_back (reset ∷ all) = ap {B = List Feed} (λ cs. reset ∷ cs) (fed_back all)
fed_back (command block given area ∷ all) =
    ap₂ {C = List Feed} (λ (n : ℕ) (cs : List Feed). command block given n ∷ cs) (length-replicate area 0) (fed_back all)

-- the worked session, the program's lines first: on two hard disks, with images of no bytes for the floppies
engine_worked : EngineAnswers 25360 25360 0 0 session
engine_worked = engine_answers 25360 25360 0 0 session worked

-- and the sessions with a floppy
engine_floppies : EngineAnswers 8464 0 4368 0 lacking × EngineAnswers 8464 0 4368 0 mistaking × EngineAnswers 8464 0 4368 0 formatting
    × EngineAnswers 8464 0 4368 0 transferring × EngineAnswers 8464 0 4368 0 marking
engine_floppies =
    let answers = engine_answers 8464 0 4368 0 in (
      answers lacking floppies-worked.0,
      answers mistaking floppies-worked.1,
      answers formatting floppies-worked.2,
      answers transferring floppies-worked.3,
      answers marking floppies-worked.4,
    )

-- and those that ask what each command leaves
engine_leaves : EngineAnswers 25360 25360 0 0 (after_start well_done) × EngineAnswers 25360 25360 0 0 (after_start tracks_made)
    × EngineAnswers 25360 25360 0 0 (after_start moved_bytes) × EngineAnswers 25360 25360 0 0 (after_start cut_short)
    × EngineAnswers 25360 25360 0 0 (after_start at_fault) × EngineAnswers 25360 25360 0 0 (after_start in_pairs)
    × EngineAnswers 25360 25360 0 0 (after_start in_order_lem) × EngineAnswers 25360 25360 0 0 (after_start turned_away)
    × EngineAnswers 25360 25360 0 0 (after_start reset_all) × EngineAnswers 25360 25360 0 0 (after_start with_contents)
engine_leaves =
    let answers = engine_answers 25360 25360 0 0 in (
      answers (after_start well_done) leaves.0,
      answers (after_start tracks_made) leaves.1,
      answers (after_start moved_bytes) leaves.2,
      answers (after_start cut_short) leaves.3,
      answers (after_start at_fault) leaves.4,
      answers (after_start in_pairs) leaves.5,
      answers (after_start in_order_lem) leaves.6,
      answers (after_start turned_away) leaves.7,
      answers (after_start reset_all) leaves.8,
      answers (after_start with_contents) leaves.9,
    )

-- ---- What was saved is found: three tracks are formatted, track 1 is moved to 2, and two sectors are written, the last of track 0
-- and the first of track 1. By the claim's second half the image has them.
three : Params
three = record { cylinders = 3; heads = 1; sectors = 32; size = 256 }

at : ℕ → Lba
at a = record { 0 = a }

saving : List Call
saving =
    Commanded (six 0x11 0 0 0 0 0) (config 3) []
    ∷ Commanded (six 0x04 0 0 0 1 0) [] []
    ∷ Commanded (six 0x0E 0 0 32 3 0) (0 ∷ 0 ∷ 64 ∷ []) []
    ∷ Commanded (six 0x0A 0 0 31 2 0) (replicate 256 7 ++ replicate 256 8) []
    ∷ []

saved : List ℕ
saved = image_of 0 (engine_at_end (begin (all_zeros 25360 25360 0 0)) saving).images

-- what the machine holds of drive 0 then
disk : Disk
disk = (at_end (fresh_machine (lengths_of 25360 25360 0 0)) (map fed saving)).disks 0

abbrev Kept : Disk → Type 0
Kept u = (u.stored ≡ some (config 3))
    × (is_held (u.kind (track_of three (at 31))) ≡ true) × (u.held (at 31) ≡ replicate 256 7)
    × (is_held (u.kind (track_of three (at 32))) ≡ true) × (u.held (at 32) ≡ replicate 256 8)

machine_keeps : Kept disk
unfolding three at saving disk six config is_held fed at_end lengths_of pick same_bytes medium_of is_floppy is_in ranges_of size_for fitted_to fields_in
    setting_by setting_of block_of count_of from_buffer keeps row_for present_with judge judged in_order hits_of is_unknown block_wrong control_wrong with_params
    interleave_wrong past_end not_spared is_valid reach_of size_in bytes_of is_among check_number addressed sense_of fresh_disk fresh_machine changed with_sense
    with_buffer with_disk in_force becomes filled storing failing_on well providing_on is_bad is_moved is_taken denied paired parted parted_by some_parted
    address_given unassignable finished with_first passing read_from write_from inARow leaving transfer_by transfer filling_on filling from_on reformatted
    format_drive check_track format_track format_bad_track read write moving assign_to assign_alternate is_stored initialize_by freely seeking on_tracks on_sectors
    with_parameters carried setting_with seen ordered restored step is_whole block_length is_copy
machine_keeps = (refl, refl, refl, refl, refl)

-- the configuration gives these parameters, if any
only_three : (n : ℕ) (p : Params) → setting_of HardDisk (config 3) n ≡ Some p → p ≡ three
unfolding three config setting_of setting_by fields_in ranges_of is_in size_for fitted_to pick
only_three n p e = by (leb 25360 n) e
  where
    fit : Setting → Params
    fit (Some q) = q
    fit None = three

    by : (enough : Bool) → pick enough (Some three) None ≡ Some p → p ≡ three
    by true z = sym (ap fit z)
    by false z = let clash : ◌≡◌ {A = ℕ} 0 1 = cc in absurd (omega (arith, clash))

-- what the claim says of one address, with the machine's bytes
abbrev Found : Params → Disk → Lba → Type 0
Found p u a =
    (t : Track) × (k : ℕ) × (sector_found p (track_of p a) (sector_of p a) saved ≡ Slot t k) × (slot_data p k (track_bytes p t saved) ≡ u.held a)

reads : (u : Disk) (a : Lba) (sector : List ℕ) → Found three u a → u.held a ≡ sector → content_of three a saved ≡ Bytes sector
unfolding content_of content_in found
reads u a sector x e = rw x.2 (ap Bytes (x.3 ∙ e))

held_reads : (u : Disk) → Kept u → Holds HardDisk u saved
    → (content_of three (at 31) saved ≡ Bytes (replicate 256 7)) × (content_of three (at 32) saved ≡ Bytes (replicate 256 8))
unfolding Holds
held_reads u kept holds = by _ (holds (config 3) kept.0).1 (holds (config 3) kept.0).2
  where
    by : (p : Params) → setting_of HardDisk (config 3) (length saved) ≡ Some p → ((a : Lba) → is_held (u.kind (track_of p a)) ≡ true → Found p u a)
        → (content_of three (at 31) saved ≡ Bytes (replicate 256 7)) × (content_of three (at 32) saved ≡ Bytes (replicate 256 8))
    by p valid found =
        let all = subst (λ (q : Params). (a : Lba) → is_held (u.kind (track_of q a)) ≡ true → Found q u a) (only_three (length saved) p valid) found in
        (reads u (at 31) _ (all (at 31) kept.1) kept.2, reads u (at 32) _ (all (at 32) kept.3) kept.4)

saved_reads : (content_of three (at 31) saved ≡ Bytes (replicate 256 7)) × (content_of three (at 32) saved ≡ Bytes (replicate 256 8))
unfolding saved disk medium_of is_floppy pick
saved_reads =
    held_reads _ (subst (λ (m : Machine). Kept ((at_end m (map fed saving)).disks 0)) (sym (machine_same 25360 25360 0 0)) machine_keeps)
    ((zero_claim 25360 25360 0 0 saving).1 0 (omega arith))
