-- A format step by step: after any number of steps the slots so far are those of the finished format, and the rest of the
-- track's stretch is as before.
use mathlib.Core.Path.{◌≡◌, refl, sym, ap, ◌∙◌}
use mathlib.Core.List.{List, [], ◌++◌, append-nil, append_assoc}
use Prim.Native.Nat.{ℕ, zero, suc, ◌+◌, ◌-◌, ◌*◌, ◌≤◌, ◌<◌}
use native.Mathlib.Omega.{arith}
use native.Mathlib.Nat.{zero-mul, suc-mul}
use native.Mathlib.Numerals.{add-one}
use lib.ListN.{length, take, drop, get_or, drop_of_length-le}
use lib.Seq.{take_at, drop-drop, take_all, take-add, length-take-le, drop-append-add}
use borrow.Rule.Slice.PartMut.{put_mid}
use Rattle.base.specs.Part.{part, splice}
use Rattle.base.proofs.Parts.{length_splice, row_front, cell_in, splice_lent}
use Rattle.geometry.specs.declared.params.Params.{Params}
use Rattle.geometry.specs.declared.params.Track.{Track}
use Rattle.geometry.specs.Params.{track_count, track_size, image_length, track_start}
use Rattle.track.specs.declared.id.Id.{Id}
use Rattle.track.specs.declared.state.State.{State}
use Rattle.track.specs.Id.{id_bytes, id_for, with_sector}
use Rattle.track.specs.Image.{with_track}
use Rattle.track.proofs.Laws.{track_lent, length_track}
use Rattle.formatter.specs.Format.{slot_made, slots_made, stepped, after_steps, under_way, formatted}
use Rattle.formatter.proofs.Formats.{length_slot, length_slots, length_formatted}

module _ (id : Id) (map fill : List ℕ) where
  -- ---- any number of steps
  -- slot k, taken out of the finished format
  slot_in : (k : ℕ) → k < length map → take (8 + length fill) (drop (k * (8 + length fill)) (slots_made id map fill)) ≡ slot_made id map fill k
  unfolding slots_made part
  slot_in k h =
      let w : ℕ = 8 + length fill in
      row_front (slot_made id map fill) w (length map) k w (length_slot id map fill) h (omega arith)
      ∙ take_all w (slot_made id map fill k) (omega (arith, length_slot id map fill k))

  -- the step that makes slot k, where the slots before it are made
  step_on : (k : ℕ) (track : List ℕ) → k < length map → stepped id map fill k (under_way id map fill k track) ≡ under_way id map fill (suc k) track
  unfolding stepped under_way splice
  step_on k track h =
      let w : ℕ = 8 + length fill in
      let at : ℕ = k * w in
      let done : List ℕ = slots_made id map fill in
      let front : List ℕ = take at done in
      let rest : List ℕ = drop at track in
      let room = cell_in w k (length map) h in
      let long : length front ≡ at = length-take-le at done (omega (arith, length_slots id map fill, room)) in
      let before : take at (front ++ rest) ≡ front = take_at front rest at long in
      let width : at + length (slot_made id map fill k) ≡ length front + w = omega (arith, long, length_slot id map fill k) in
      let after : drop (at + length (slot_made id map fill k)) (front ++ rest) ≡ drop (suc k * w) track =
      ap (λ (i : ℕ). drop i (front ++ rest)) width ∙ drop-append-add front rest w ∙ drop-drop w at track ∙ ap (λ (i : ℕ). drop i track) (sym (suc-mul k w)) in
      let more : take (suc k * w) done ≡ front ++ slot_made id map fill k =
      ap (λ (i : ℕ). take i done) (suc-mul k w) ∙ take-add at w done ∙ ap (λ (s : List ℕ). front ++ s) (slot_in k h) in
      rw (before, after, more, append_assoc)

  -- After k steps the stretch is the first k slots of the finished format, then the old rest.
  pub after_steps_lem : (k : ℕ) (track : List ℕ) → k ≤ length map → after_steps id map fill k track ≡ under_way id map fill k track
  unfolding after_steps under_way
  after_steps_lem zero track h = rw zero-mul
  after_steps_lem (suc k) track h = ap (stepped id map fill k) (after_steps_lem k track (omega arith)) ∙ step_on k track (omega arith)

  -- ---- a stretch of a whole track
  module _ (track : List ℕ) (whole : length track ≡ length map * (8 + length fill)) where
    pub length_after : (k : ℕ) → k ≤ length map → length (after_steps id map fill k track) ≡ length track
    unfolding after_steps stepped
    length_after zero h = refl
    length_after (suc k) h =
        let before = length_after k (omega arith) in
        length_splice (k * (8 + length fill)) (slot_made id map fill k) (after_steps id map fill k track)
        (omega (arith, before, length_slot id map fill k, cell_in (8 + length fill) k (length map) (omega arith)))
        ∙ before

    -- after the last step the format is finished
    pub all_steps : under_way id map fill (length map) track ≡ slots_made id map fill
    unfolding under_way
    all_steps =
        let done : take (length map * (8 + length fill)) (slots_made id map fill) ≡ slots_made id map fill = take_all (length map * (8 + length fill)) (slots_made id map fill) (omega (arith, length_slots id map fill)) in
        let none : drop (length map * (8 + length fill)) track ≡ [] = drop_of_length-le track {i = length map * (8 + length fill)} (omega arith) in
        rw (done, none, append-nil)

-- ---- the loop over the steps: one more
pub steps_more : (id : Id) (map fill track₀ track next : List ℕ) (k : ℕ) → track ≡ after_steps id map fill k track₀ → next ≡ stepped id map fill k track
    → next ≡ after_steps id map fill (k + 1) track₀
unfolding after_steps
steps_more id map fill track₀ track next k done e = e ∙ ap (stepped id map fill k) done ∙ rw add-one

-- ---- one slot: the ID bytes, then the data, each in its part, which is lent
-- a step: the slot in its part of the track, which is lent
pub step_lent : (id other : Id) (map fill track bytes slot : List ℕ) (k : ℕ) → other ≡ with_sector id (get_or map k 0) → bytes ≡ id_bytes other → slot ≡ bytes ++ fill
    → put_mid (k * (8 + length fill)) (k * (8 + length fill) + 8 + length fill - k * (8 + length fill)) track slot ≡ stepped id map fill k track
unfolding stepped slot_made
step_lent id other map fill track bytes slot k eo eb es =
    let made : slot ≡ slot_made id map fill k = es ∙ ap (λ (b : List ℕ). b ++ fill) (eb ∙ ap id_bytes eo) in
    rw made (splice_lent (k * (8 + length fill)) (k * (8 + length fill) + 8 + length fill) track (slot_made id map fill k) (omega (arith, length_slot id map fill k)))

-- ---- a track in its stretch of the image, which is lent
module _ (p : Params) (t : Track) (map fill image : List ℕ) (lm : length map ≡ p.sectors) (lf : length fill ≡ p.size) (start end : ℕ) (es : start ≡ track_start p t)
    (ee : end ≡ track_start p t + track_size p) (long : image_length p ≤ length image) (on : t.0 < track_count p) where
  pub stretch_whole : length (take (end - start) (drop start image)) ≡ length map * (8 + length fill)
  stretch_whole = ap length (track_lent p t image start end es ee) ∙ length_track p image long t on ∙ rw (lm, lf)

  -- with all its steps made it is formatted
  pub track_walked : (state : State) (id : Id) (lent : List ℕ) → id ≡ id_for p t state 0 → lent ≡ under_way id map fill (length map) (take (end - start) (drop start image))
      → put_mid start (end - start) image lent ≡ with_track p t (formatted p t state map fill) image
  unfolding with_track formatted
  track_walked state id lent ei el =
      let is : lent ≡ slots_made (id_for p t state 0) map fill = el ∙ all_steps id map fill _ stretch_whole ∙ ap (λ (i : Id). slots_made i map fill) ei in
      rw (is, es) (splice_lent (track_start p t) end image (slots_made (id_for p t state 0) map fill) (omega (arith, ee, length_formatted p t state map fill lm lf)))
