-- Copy Blocks: engine and machine reply alike, and agree after it.
use Prim.Native.Nat.{ℕ, zero, suc, ◌*◌, ◌%◌, ◌≤◌, ◌<◌}
use mathlib.Core.Path.{◌≡◌, refl, sym, ap, ◌∙◌}
use mathlib.Core.Bool.{true, false}
use mathlib.Core.List.{List, [], ◌++◌}
use native.Mathlib.Omega.{arith}
use native.Mathlib.Decide.{ℕ_discrete}
use lib.ListN.{length, replicate}
use lib.Dec.{eqb}
use borrow.Author.Tests.{eq-eqb, ne_eqb}
use Rattle.base.specs.Pick.{pick}
use Rattle.base.specs.Part.{splice}
use Rattle.base.proofs.Decide.{pick_true, pick-false}
use Rattle.geometry.specs.declared.params.Lba.{Lba}
use Rattle.geometry.specs.declared.params.Params.{Params}
use Rattle.geometry.specs.Config.{Setting}
use Rattle.std.specs.Prelude.{Some, None}
use Rattle.geometry.specs.Params.{further}
use Rattle.geometry.specs.Medium.{medium_of}
use Rattle.sectors.specs.Transfer.{Transfer}
use Rattle.contents.proofs.Laws.{Given}
use Rattle.copying.specs.declared.route.Route.{Route}
use Rattle.copying.specs.Ends.{End}
use Rattle.copying.specs.Ends.{Going, SourceFault, TargetFault, Short}
use Rattle.copying.specs.Copying.{Copying, copied}
use Rattle.copying.specs.Listwise.{read_all, sectors_for, write_all, read_of, Fitting}
use Rattle.copying.proofs.Laws.{end_by_codes, end_by_codes_lem, read_so_far, copied_listwise, read_long, read_all_lem, read_whole, given_all, copied_target, copied_others}
use Rattle.model.specs.declared.block.Block.{Block}
use Rattle.model.specs.declared.block.CopyBlock.{CopyBlock}
use Rattle.model.specs.declared.record.Controller.{Controller}
use Rattle.model.specs.declared.record.Answer.{Answer}
use Rattle.model.specs.Verdicts.{Verdict}
use Rattle.model.specs.Verdicts.{Faulty, Passed}
use Rattle.model.specs.Verdicts.{Judgement}
use Rattle.model.specs.declared.verdict.View.{View}
use Rattle.model.specs.Block.{is_copy, copy_of, count_of}
use Rattle.model.specs.Checks.{judge_over, filling_of, shares}
use Rattle.model.specs.Sense.{sense_of}
use Rattle.model.specs.Record.{drive_at, setting_in, sensed, failed, good, failed_answer, good_answer, unless_named}
use Rattle.model.specs.Copies.{CopyEffect, copy_effect, route_of, copy_ending, copy_left, copy_with}
use Rattle.model.specs.Engine.{view_of, image_of, obey_copy, Result, left_by_copy, on_drives}
use Rattle.model.specs.Machine.{Disk, Machine, Passage, changed, with_sense, with_buffer, with_disk, failing_on, well, providing_on, read_from, write_from, inARow, leaving}
use Rattle.model.specs.Machine.{has_passed, sectors_filled, poured, copy_ends, copy_over, copy_by, ordered_copy}
use Rattle.model.specs.Claim.{reply_of, replied}
use Rattle.model.proofs.engine.Copies.{passed_copies, CopyJudged, copy_fault, copy_pass, judge_copy_by}
use Rattle.model.proofs.engine.CopyLeaves.{from_copy, to_copy, from_below, to_below, one_drive, copy_drives, copy_own_entry, copy_other_entry}
use Rattle.model.proofs.claim.Mirrors.{Mirrors}
use Rattle.model.proofs.claim.Passages.{Ended, all_done, stopped, Together, read_together, read_handed}
use Rattle.model.proofs.claim.Passages.{write_together, write_mirror, write_keeps, write_only}
use Rattle.model.proofs.claim.Agrees.{Drives, InStep, Agrees, Answered}
use Rattle.model.proofs.claim.Ends.{changed_same, changed_other, sense_length, resensed}
use Rattle.model.proofs.claim.Current.{InForce, view_same, in_force_lem, mirrored, drive_again}

-- ---- What is done before the sense is set: the buffer, and every drive but for its sense
record DoneAll (c : Controller) (buffer : List ℕ) (images : List (List ℕ)) (m : Machine) : Type 0 where
  buffered : buffer ≡ m.buffer
  whole : length buffer ≡ 512
  drives : (d : ℕ) → d < 4 → Drives (medium_of d) (drive_at c d) (image_of d images) (m.disks d)
  senses : (d : ℕ) → d < 4 → ((drive_at c d).sense ≡ m.senses d) × (length (drive_at c d).sense ≡ 4)

-- ---- Then the sense of the source drive is set alike
module _ (c : Controller) (four : length c.drives ≡ 4) (area buffer : List ℕ) (images : List (List ℕ)) (m : Machine) (done : DoneAll c buffer images m)
    (from : ℕ) (there : from < 4) where
  module _ (sense : List ℕ) (long : length sense ≡ 4) (answer : Answer) where
    abbrev e : CopyEffect
    e = copy_effect (record { entry = sensed sense (drive_at c from); answer = answer }) buffer images

    abbrev r : Result
    r = left_by_copy from e c area

    own_step : InStep from (sensed sense (drive_at c from)) buffer (image_of from images) (with_sense from sense m)
    unfolding with_sense sensed
    own_step = record {
      buffered = done.buffered;
      whole = done.whole;
      sense = sym (changed_same m.senses from sense);
      four = long;
      drive = resensed (medium_of from) sense (drive_at c from) (image_of from images) (m.disks from) (done.drives from there);
    }

    other_step : (d : ℕ) → d < 4 → (d ≡ from → ⊥) → InStep d (drive_at c d) buffer (image_of d images) (with_sense from sense m)
    unfolding with_sense
    other_step d l ne = record {
      buffered = done.buffered;
      whole = done.whole;
      sense = (done.senses d l).0 ∙ sym (changed_other m.senses from sense d ne);
      four = (done.senses d l).1;
      drive = done.drives d l;
    }

    left_parts : (r.outcome.controller.buffer ≡ buffer) × (r.images ≡ images)
    unfolding left_by_copy
    left_parts = (refl, refl)

    steps : (d : ℕ) → d < 4 → Dec (d ≡ from)
        → InStep d (drive_at r.outcome.controller d) r.outcome.controller.buffer (image_of d r.images) (with_sense from sense m)
    steps d l (yes q) = rw (q, copy_own_entry from e c area (omega (arith, four)), left_parts.0, left_parts.1) own_step
    steps d l (no q) = rw (copy_other_entry from e c area d q, left_parts.0, left_parts.1) (other_step d l q)

    sensed_agree : Agrees r.outcome.controller (λ d. image_of d r.images) (with_sense from sense m)
    sensed_agree = record { four = copy_drives from e c area ∙ four; drives = λ d l. steps d l (ℕ_discrete d from) }

  failing_answered : (named code : ℕ) (at : Lba) (sectors : ℕ) (b : Block) → b.drive ≡ from
      → Answered (replied (left_by_copy from (copy_effect (failed from named code at sectors 0 (drive_at c from)) buffer images) c area))
      (failing_on named b code at sectors [] m)
  unfolding failed failing_on replied reply_of left_by_copy
  failing_answered named code at sectors b is =
      rw is
      (record { same = refl; agree = sensed_agree (sense_of code named at) (sense_length code named at) (failed_answer from sectors 0) })

  well_answered : (sectors : ℕ) (b : Block) → b.drive ≡ from
      → Answered (replied (left_by_copy from (copy_effect (good from sectors 0 (drive_at c from)) buffer images) c area)) (well b sectors [] m)
  unfolding good well replied reply_of left_by_copy
  well_answered sectors b is =
      rw is
      (record { same = refl; agree = sensed_agree (sense_of 0 from (record { 0 = 0 })) (sense_length 0 from _) (good_answer from sectors 0) })

-- ---- The copy itself: the machine's read and write go with the engine's Read and Write
module _ (c : Controller) (images : List (List ℕ)) (m : Machine) (agree : Agrees c (λ d. image_of d images) m) (k : CopyBlock)
    (from-there : k.from.drive < 4) (to-there : k.to.drive < 4) (p q : Params)
    (sp : setting_in (medium_of k.from.drive) (drive_at c k.from.drive) (length (image_of k.from.drive images)) ≡ Some p)
    (sq : setting_in (medium_of k.to.drive) (drive_at c k.to.drive) (length (image_of k.to.drive images)) ≡ Some q)
    (calm-from : (drive_at c k.from.drive).pending ≡ false) (calm-to : (drive_at c k.to.drive).pending ≡ false)
    (fit : Fitting (route_of k p q) (count_of k.from) images) where
  abbrev route : Route
  route = route_of k p q

  abbrev n : ℕ
  n = count_of k.from

  abbrev source : Disk
  source = m.disks k.from.drive

  abbrev target : Disk
  target = m.disks k.to.drive

  -- the engine's Read and Write, and the machine's
  abbrev x : Transfer
  x = read_all route n images

  abbrev w : Transfer
  w = write_all route n images x

  abbrev y : Passage
  y = read_from p n k.from.address source

  abbrev v : Passage
  v = poured q k.to.address y target

  drive_of : (d : ℕ) → d < 4 → Drives (medium_of d) (drive_at c d) (image_of d images) (m.disks d)
  drive_of d l = (agree.drives d l).drive

  force_of : (d : ℕ) → d < 4 → (s : Params) → setting_in (medium_of d) (drive_at c d) (length (image_of d images)) ≡ Some s
      → InForce (medium_of d) (drive_at c d) (image_of d images) (m.disks d) s
  unfolding view_of
  force_of d l s e =
      let same = view_same (medium_of d) (drive_at c d) (image_of d images) (m.disks d) (drive_of d l) in
      in_force_lem (medium_of d) (drive_at c d) (image_of d images) (m.disks d) (drive_of d l) s (sym (ap (λ (view : View). view.setting) same) ∙ e)

  abbrev force : InForce (medium_of k.from.drive) (drive_at c k.from.drive) (image_of k.from.drive images) source p
  force = force_of k.from.drive from-there p sp

  abbrev forced : InForce (medium_of k.to.drive) (drive_at c k.to.drive) (image_of k.to.drive images) target q
  forced = force_of k.to.drive to-there q sq

  settled : target.pending ≡ false
  settled = (drive_of k.to.drive to-there).pending ∙ calm-to

  mirror : Mirrors p source.kind source.inter source.held (image_of k.from.drive images)
  mirror = mirrored _ _ _ _ (drive_of k.from.drive from-there) p force ((drive_of k.from.drive from-there).pending ∙ calm-from)

  mirror_to : Mirrors q target.kind target.inter target.held (image_of k.to.drive images)
  mirror_to = mirrored _ _ _ _ (drive_of k.to.drive to-there) q forced settled

  -- ---- the Read
  together : Together p n k.from.address x y
  together = read_together p force.within source (image_of k.from.drive images) force.fits mirror n k.from.address fit.source_on

  handed : x.handed ≡ inARow y.sectors
  handed = read_handed p force.within source (image_of k.from.drive images) force.fits mirror n k.from.address fit.source_on

  read_bytes_lem : length (inARow y.sectors) ≡ x.done * p.size
  read_bytes_lem = sym (ap length handed) ∙ read_long route n images fit

  -- ---- as many sectors are to be written
  all_read : x.code ≡ 0 → x.done ≡ n
  all_read = read_all_lem route n images fit

  stopped_short : (x.code ≡ 0 → ⊥) → x.done ≡ n → ⊥
  stopped_short ne e = ne (read_whole route n images fit e)

  filled_same : Ended k.from.address x.done x.code y.end
      → sectors_filled (has_passed y.end) (length (inARow y.sectors)) q.size ≡ sectors_for route n x.done
  unfolding sectors_filled has_passed sectors_for
  filled_same (all_done e passed) =
      rw (passed, read_bytes_lem, all_read e, pick_true true _ _ refl, pick_true (eqb n n) _ _ (eq-eqb n n refl)) refl
  filled_same (stopped ne fault) =
      rw (fault, read_bytes_lem, pick-false false _ _ refl, pick-false (eqb x.done n) _ _ (ne_eqb x.done n (stopped_short ne))) refl

  v_is : v ≡ write_from q (sectors_for route n x.done) k.to.address (x.handed ++ replicate q.size 0) target
  unfolding poured
  v_is = rw (filled_same together.ended, handed) refl

  -- ---- the Write
  abbrev given : List ℕ
  given = x.handed ++ replicate q.size 0

  abbrev count : ℕ
  count = sectors_for route n x.done

  enough : Given q count k.to.address given
  enough = given_all route n images fit

  abbrev after : Passage
  after = write_from q count k.to.address given target

  written : Together q count k.to.address w after
  written =
      write_together q forced.within target (image_of k.to.drive images) forced.fits mirror_to count k.to.address enough.on_drive_lem given enough.enough

  target_drive : Drives (medium_of k.to.drive) (drive_at c k.to.drive) w.image after.disk
  target_drive =
      drive_again _ _ _ target (drive_of k.to.drive to-there) q forced settled after.disk w.image
      (write_only q forced.within target (image_of k.to.drive images) forced.fits mirror_to count k.to.address enough.on_drive_lem given enough.enough)
      (write_keeps q forced.within target (image_of k.to.drive images) forced.fits mirror_to count k.to.address enough.on_drive_lem given enough.enough)
      (write_mirror q forced.within target (image_of k.to.drive images) forced.fits mirror_to count k.to.address enough.on_drive_lem given enough.enough)

  -- ---- buffer and drives, before the sense is set
  abbrev machine : Machine
  machine = with_disk k.to.drive after.disk (with_buffer (leaving after.sectors m.buffer) m)

  abbrev buffer : List ℕ
  buffer = splice 0 w.last c.buffer

  abbrev now : List (List ℕ)
  now = (copied route n images).images

  room : q.size ≤ length c.buffer
  room = omega (arith, forced.within.size_most, (agree.drives k.to.drive to-there).whole)

  same_buffer : buffer ≡ leaving after.sectors m.buffer
  same_buffer = written.buffer c.buffer room ∙ ap (leaving after.sectors) (agree.drives k.to.drive to-there).buffered

  buffer_whole : length buffer ≡ 512
  buffer_whole = written.room c.buffer room ∙ (agree.drives k.to.drive to-there).whole

  drives_now : (d : ℕ) → d < 4 → Dec (d ≡ k.to.drive) → Drives (medium_of d) (drive_at c d) (image_of d now) (changed m.disks k.to.drive after.disk d)
  drives_now d l (yes e) = rw (e, copied_target route n images fit, changed_same m.disks k.to.drive after.disk) target_drive
  drives_now d l (no ne) =
      rw (copied_others route n images fit d ne, changed_other m.disks k.to.drive after.disk d ne) (drive_of d l)

  done_all : DoneAll c buffer now machine
  unfolding with_disk with_buffer
  done_all = record {
    buffered = same_buffer;
    whole = buffer_whole;
    drives = λ d l. drives_now d l (ℕ_discrete d k.to.drive);
    senses = λ d l. ((agree.drives d l).sense, (agree.drives d l).four);
  }

  -- ---- the ends
  module _ (area : List ℕ) where
    abbrev Alike : (read done : ℕ) → End → (end read_end : Verdict) → (rest sectors : ℕ) → Type 0
    Alike read done end write-end read_end rest sectors =
        Answered (replied (left_by_copy k.from.drive (copy_effect (copy_ending k read done end (drive_at c k.from.drive)) buffer now) c area))
        (copy_ends k write-end read_end rest sectors m machine)

    target_fault : (read done code : ℕ) (read_end : Verdict) (rest : ℕ)
        → Alike read done (TargetFault code) (Faulty code (further k.to.address done)) read_end rest done
    unfolding copy_ending copy_ends
    target_fault read done code read_end rest =
        failing_answered c agree.four area buffer now machine done_all k.from.drive from-there k.to.drive code _ done k.from refl

    source_fault : (read done code rest : ℕ) → Alike read done (SourceFault code) Passed (Faulty code (further k.from.address read)) rest done
    unfolding copy_ending copy_ends
    source_fault read done code rest =
        failing_answered c agree.four area buffer now machine done_all k.from.drive from-there k.from.drive code _ done k.from refl

    rest_alike : (read done rest : ℕ) → Alike read done (pick (eqb rest 0) Going Short) Passed Passed rest done
    unfolding copy_ending copy_ends pick
    rest_alike read done zero = well_answered c agree.four area buffer now machine done_all k.from.drive from-there done k.from refl
    rest_alike read done (suc rest) =
        rw (ne_eqb (suc rest) 0 (λ e. omega arith))
        (failing_answered c agree.four area buffer now machine done_all k.from.drive from-there k.to.drive 0x23 _ done k.from refl)

    -- by how the Write ended, and then the Read
    abbrev rest_of : ℕ
    rest_of = length (inARow y.sectors) % q.size

    ended_alike : Ended k.to.address w.done w.code after.end → Ended k.from.address x.done x.code y.end
        → Alike (read_of route n x w) w.done (end_by_codes route n x w) after.end y.end rest_of (length after.sectors)
    unfolding end_by_codes
    ended_alike (stopped ne fault) source_end =
        rw (fault, pick-false (eqb w.code 0) _ _ (ne_eqb w.code 0 ne), ← written.done)
        (target_fault (read_of route n x w) w.done w.code y.end rest_of)
    ended_alike (all_done e passed) (stopped ne fault) =
        rw (passed, fault, pick_true (eqb w.code 0) _ _ (eq-eqb w.code 0 e), pick-false (eqb x.code 0) _ _ (ne_eqb x.code 0 ne), read_so_far route n images fit e, ← written.done)
        (source_fault x.done w.done x.code rest_of)
    ended_alike (all_done e passed) (all_done e' passed') =
        let bytes : length (inARow y.sectors) ≡ n * p.size = read_bytes_lem ∙ ap (λ (i : ℕ). i * p.size) (all_read e') in
        rw (passed, passed', pick_true (eqb w.code 0) _ _ (eq-eqb w.code 0 e), pick_true (eqb x.code 0) _ _ (eq-eqb x.code 0 e'), bytes, ← written.done)
        (rest_alike (read_of route n x w) w.done (n * p.size % q.size))

    copy_alike : Answered (replied (left_by_copy k.from.drive (copy_left k (drive_at c k.from.drive) c.buffer (copied route n images)) c area)) (copy_over k p q m)
    unfolding copy_left copy_over
    copy_alike =
        let is = copied_listwise route n images fit in
        let read : (copied route n images).read ≡ read_of route n x w = ap (λ (z : Copying). z.read) is in
        let done : (copied route n images).done ≡ w.done = ap (λ (z : Copying). z.done) is in
        let last : (copied route n images).last ≡ w.last = ap (λ (z : Copying). z.last) is in
        let end : (copied route n images).end ≡ end_by_codes route n x w = ap (λ (z : Copying). z.end) is ∙ end_by_codes_lem route n images fit in
        rw (read, done, last, end, v_is) (ended_alike written.ended together.ended)

-- ---- The whole call
module _ (c : Controller) (area : List ℕ) (images : List (List ℕ)) (m : Machine) (agree : Agrees c (λ d. image_of d images) m) (block : List ℕ)
    (copy : is_copy block ≡ true) where
  abbrev k : CopyBlock
  k = copy_of block

  abbrev from : ℕ
  from = k.from.drive

  abbrev to : ℕ
  to = k.to.drive

  -- nothing done
  none_done : DoneAll c c.buffer images m
  none_done = record {
    buffered = (agree.drives from (from_below block)).buffered;
    whole = (agree.drives from (from_below block)).whole;
    drives = λ d l. (agree.drives d l).drive;
    senses = λ d l. ((agree.drives d l).sense, (agree.drives d l).four);
  }

  fault_answered : (named code : ℕ) (at : Lba)
      → Answered (replied (left_by_copy from (copy_effect (failed from named code at 0 0 (drive_at c from)) c.buffer images) c area))
      (failing_on named k.from code at 0 [] m)
  fault_answered named code at =
      failing_answered c agree.four area c.buffer images m none_done from (from_below block) named code at 0 k.from refl

  abbrev seen_from : View
  seen_from = view_of (medium_of from) (drive_at c from) (length (image_of from images))

  abbrev seen_to : View
  seen_to = view_of (medium_of to) (drive_at c to) (length (image_of to images))

  passed_answered : (s t : Setting) → setting_in (medium_of from) (drive_at c from) (length (image_of from images)) ≡ s
      → setting_in (medium_of to) (drive_at c to) (length (image_of to images)) ≡ t
      → judge_over k.from (count_of k.from) seen_from 0 0 ≡ Passed → judge_over k.to (filling_of (count_of k.from) s t) seen_to 0 0 ≡ Passed
      → shares k (count_of k.from) (filling_of (count_of k.from) s t) ≡ false
      → Answered (replied (left_by_copy from (copy_with k s t (drive_at c from) c.buffer images) c area)) (copy_by k s t m)
  unfolding copy_with copy_by filling_of
  passed_answered None t es et one two three = fault_answered from 0x0A k.from.address
  passed_answered (Some p) None es et one two three = fault_answered to 0x0A k.to.address
  passed_answered (Some p) (Some q) es et one two three =
      let copies =
      passed_copies k (drive_at c from) (drive_at c to) images (from_copy block copy) (to_copy block copy) (one_drive c block area images copy) p q es et one two three
      in
      copy_alike c images m agree k (from_below block) (to_below block) p q es et copies.source_settled copies.target_settled copies.fitting area

  judged_answered : {said : Judgement} → CopyJudged k seen_from seen_to said
      → Answered
      (replied
      (left_by_copy from
      (unless_named said.verdict from said.named (drive_at c from) (λ e. copy_effect e c.buffer images)
      (copy_with k seen_from.setting seen_to.setting (drive_at c from) c.buffer images))
      c area))
      (providing_on said.named said.verdict k.from m (copy_by k seen_from.setting seen_to.setting m))
  unfolding unless_named providing_on view_of
  judged_answered (copy_fault named code at some) = fault_answered named code at
  judged_answered (copy_pass named one two three) = passed_answered _ _ refl refl one two three

  -- the checks see one view of each drive
  pub copy_executes : Answered (replied (on_drives k c area images)) (ordered_copy k m)
  unfolding on_drives obey_copy ordered_copy
  copy_executes =
      let source = view_same (medium_of from) (drive_at c from) (image_of from images) (m.disks from) (agree.drives from (from_below block)).drive in
      let target = view_same (medium_of to) (drive_at c to) (image_of to images) (m.disks to) (agree.drives to (to_below block)).drive in
      rw (← source, ← target) (judged_answered (judge_copy_by k seen_from seen_to (from_copy block copy) (to_copy block copy)))
