-- A move that was interrupted before A's slot 0 was written, made again from the start, ends in the same image: B is written whole.
use mathlib.Core.Path.{◌≡◌, sym, ap, ◌∙◌}
use mathlib.Core.List.{List, ◌++◌, append_assoc}
use Prim.Native.Nat.{ℕ, zero, suc, ◌+◌, ◌*◌, ◌≤◌, ◌<◌}
use native.Mathlib.Omega.{arith}
use native.Mathlib.Nat.{add-zero}
use lib.ListN.{length, get_or, length-append}
use Rattle.base.specs.Part.{splice, rows}
use Rattle.base.proofs.Parts.{cell_in, length_rows, rows_same}
use Rattle.base.proofs.Splices.{splice_empty, splice_again, splice_behind}
use Rattle.geometry.specs.declared.params.Params.{Params}
use Rattle.geometry.specs.declared.params.Track.{Track}
use Rattle.geometry.specs.Params.{slot_size, track_size, track_start}
use Rattle.track.specs.declared.state.State.TheVariants.{Taken}
use Rattle.track.specs.Id.{id_for}
use Rattle.track.specs.Image.{Fits, with_track}
use Rattle.track.proofs.Laws.{id_length, track_room}
use Rattle.contents.specs.Content.{read_bytes}
use Rattle.keeping.specs.Keep.{after_write, copy_id, copy_body, sectors_of, leave_id, after_writes, kept, slot_start, Mapped, Keepable}
use Rattle.keeping.proofs.Order.{writes_none, leave_more, copy_more}
use Rattle.keeping.proofs.Copying.{new_id, new_body, body_length, Unmoved}
use Rattle.keeping.proofs.Before.{unmoved_fits, unmoved_reads, unmoved_keepable}

-- ---- B's slots, whole
abbrev pub new_slot : Params → (from to : Track) → (map image : List ℕ) → (k : ℕ) → List ℕ
new_slot p from to map image k = new_id p from to map k ++ new_body p from map image k

module _ (p : Params) (from to : Track) (map image : List ℕ) (fits : Fits p image) (maps : Mapped p.sectors map) (may : Keepable p from to image) where
  slot_long : (k : ℕ) → k < p.sectors → length (new_slot p from to map image k) ≡ slot_size p
  slot_long k h = length-append (new_id p from to map k) (new_body p from map image k) ∙ omega (arith, id_length (id_for p to (Taken from) (get_or map k 0)), body_length p from to map image fits maps may k h)

  slot_step : (k : ℕ) (done : List ℕ) → k < p.sectors → length done ≡ k * slot_size p
      → after_write p (copy_body to map (sectors_of p from image) k) (after_write p (copy_id p from to map k) (splice (track_start p to) done image)) ≡ splice (track_start p to) (done ++ new_slot p from to map image k) image
  unfolding after_write
  slot_step k done h l =
      let start : ℕ = track_start p to in
      let id : List ℕ = new_id p from to map k in
      let body : List ℕ = new_body p from map image k in
      let li : length id ≡ 8 = id_length (id_for p to (Taken from) (get_or map k 0)) in
      let room : start + k * slot_size p + slot_size p ≤ length image = omega (arith, track_room p to (length image) may.to_in fits.long, cell_in (slot_size p) k p.sectors h) in
      ap (splice (slot_start p to k + 8) body) (splice_behind start (slot_start p to k) id done image (omega arith) (omega arith))
      ∙ splice_behind start (slot_start p to k + 8) body (done ++ id) image (omega (arith, length-append done id, li)) (omega arith)
      ∙ ap (λ (l : List ℕ). splice start l image) (append_assoc done id body)

  -- after both writes of k slots these are in their places
  slots_written : (k : ℕ) → k ≤ p.sectors → after_writes p from to map image (k * 2) ≡ splice (track_start p to) (rows (new_slot p from to map image) k) image
  unfolding rows
  slots_written zero h = writes_none p from to map image ∙ sym (splice_empty (track_start p to) image)
  slots_written (suc k) h =
      copy_more p from to map image k (omega arith)
      ∙ ap (λ (x : List ℕ). after_write p (copy_body to map (sectors_of p from image) k) (after_write p (copy_id p from to map k) x)) (slots_written k (omega arith))
      ∙ slot_step k (rows (new_slot p from to map image) k) (omega arith) (length_rows (new_slot p from to map image) (slot_size p) k (λ i l. slot_long i (omega arith)))

  whole_written : after_writes p from to map image (p.sectors * 2) ≡ with_track p to (rows (new_slot p from to map image) p.sectors) image
  unfolding with_track
  whole_written = slots_written p.sectors (omega arith)

  whole_long : length (rows (new_slot p from to map image) p.sectors) ≡ track_size p
  whole_long = length_rows (new_slot p from to map image) (slot_size p) p.sectors slot_long

-- ---- from an image while B is written; the map may be another one
module _ (p : Params) (from to : Track) (map image now : List ℕ) (fits : Fits p image) (may : Keepable p from to image) (u : Unmoved p from to map image now)
    (next : List ℕ) (maps : Mapped p.sectors next) where
  same_slots : rows (new_slot p from to next now) p.sectors ≡ rows (new_slot p from to next image) p.sectors
  same_slots =
      rows_same (new_slot p from to next now) (new_slot p from to next image) p.sectors
      (λ k h. ap (λ c. new_id p from to next k ++ read_bytes c) (unmoved_reads p from to map image now fits may u (get_or next k 0)))

  written_over : (bytes : List ℕ) → length bytes ≡ track_size p → with_track p to bytes now ≡ with_track p to bytes image
  unfolding with_track
  written_over bytes l =
      ap (splice (track_start p to) bytes) u.is
      ∙ splice_again (track_start p to) bytes u.stretch image (l ∙ sym u.long) (omega (arith, track_room p to (length image) may.to_in fits.long))

  same_writes : (j : ℕ) → j ≤ p.sectors → after_writes p from to next now (p.sectors * 2 + j) ≡ after_writes p from to next image (p.sectors * 2 + j)
  same_writes zero h =
      rw add-zero
      (whole_written p from to next now (unmoved_fits p from to map image now fits may u) maps (unmoved_keepable p from to map image now fits may u)
      ∙ ap (λ (bytes : List ℕ). with_track p to bytes now) same_slots ∙ written_over _ (whole_long p from to next image fits maps may)
      ∙ sym (whole_written p from to next image fits maps may))
  same_writes (suc j) h =
      leave_more p from to next now j (omega arith) ∙ ap (after_write p (leave_id p from to next j)) (same_writes j (omega arith)) ∙ sym (leave_more p from to next image j (omega arith))

  pub unmoved_again : kept p from to next now ≡ kept p from to next image
  unfolding kept
  unmoved_again =
      let e : p.sectors * 3 ≡ p.sectors * 2 + p.sectors = omega arith in
      ap (after_writes p from to next now) e ∙ same_writes p.sectors (omega arith) ∙ ap (after_writes p from to next image) (sym e)
