-- A single write, seen in the stretch of its track: what it changes and what it leaves.
use mathlib.Core.Path.{◌≡◌, ap, ◌∙◌}
use mathlib.Core.List.{List}
use Prim.Native.Nat.{ℕ, ◌+◌, ◌*◌, ◌≤◌, ◌<◌}
use native.Mathlib.Omega.{arith}
use native.Mathlib.Decide.{dec_lt}
use native.Mathlib.Nat.{mul-le-mul_right}
use lib.ListN.{length}
use Rattle.base.specs.Part.{part, splice}
use Rattle.base.proofs.Splices.{splice_inside}
use Rattle.base.proofs.Parts.{length_splice, part_same, part_before, part_after, other_cell, cell_in}
use Rattle.geometry.specs.declared.params.Params.{Params}
use Rattle.geometry.specs.declared.params.Track.{Track}
use Rattle.geometry.specs.Params.{track_count, slot_size, track_size, image_length, track_start}
use Rattle.track.specs.Image.{with_track, slot_id, slot_data, with_data}
use Rattle.track.proofs.Laws.{track_room, slot_room}
use Rattle.keeping.specs.Keep.{Id, Body, after_write}

-- ---- a slot's ID in a track's stretch
unfoldable pub with_id : Params → (k : ℕ) → (id bytes : List ℕ) → List ℕ
with_id p k id bytes = splice (k * slot_size p) id bytes

module _ (p : Params) (bytes : List ℕ) (l : length bytes ≡ track_size p) (k : ℕ) (id : List ℕ) (h : k < p.sectors) (li : length id ≡ 8) where
  id_room : k * slot_size p + length id ≤ length bytes
  id_room = omega (arith, l, li, slot_room p bytes l k h)

  pub length_with_id : length (with_id p k id bytes) ≡ track_size p
  unfolding with_id
  length_with_id = length_splice (k * slot_size p) id bytes id_room ∙ l

  pub id_same : slot_id p k (with_id p k id bytes) ≡ id
  unfolding slot_id with_id
  id_same = part_same (k * slot_size p) 8 id bytes li (rw li at id_room)

  pub id_other : (j : ℕ) → (k ≡ j → ⊥) → slot_id p j (with_id p k id bytes) ≡ slot_id p j bytes
  unfolding slot_id with_id
  id_other j ne =
      other_cell (slot_size p) k j (k * slot_size p) (j * slot_size p) 8 0 id bytes ne
      (omega arith) (omega (arith, li)) (omega arith) (omega arith) id_room

  -- every slot's data stay
  pub data_kept : (j : ℕ) → slot_data p j (with_id p k id bytes) ≡ slot_data p j bytes
  unfolding slot_data with_id
  data_kept j = by (dec_lt j k)
    where
      by : Dec (j < k) → part (j * slot_size p + 8) p.size (splice (k * slot_size p) id bytes) ≡ part (j * slot_size p + 8) p.size bytes
      by (yes lt) = part_before (j * slot_size p + 8) p.size (k * slot_size p) id bytes (omega (arith, cell_in (slot_size p) j k lt)) id_room
      by (no ge) =
          let le : k ≤ j = omega arith in
          part_after (j * slot_size p + 8) p.size (k * slot_size p) id bytes (omega (arith, li, mul-le-mul_right (slot_size p) le)) id_room

-- ---- a write in a track that was put into an image
module _ (p : Params) (t : Track) (k : ℕ) (written bytes image : List ℕ) (fits : image_length p ≤ length image) (h : t.0 < track_count p) (hk : k < p.sectors) (l : length bytes ≡ track_size p) where
  pub id_in_track : length written ≡ 8 → after_write p (Id t k written) (with_track p t bytes image) ≡ with_track p t (with_id p k written bytes) image
  unfolding after_write with_track with_id
  id_in_track e =
      splice_inside (track_start p t) (track_size p) (k * slot_size p) written bytes image l
      (omega (arith, e, slot_room p bytes l k hk)) (track_room p t (length image) h fits)

  pub body_in_track : length written ≡ p.size → after_write p (Body t k written) (with_track p t bytes image) ≡ with_track p t (with_data p k written bytes) image
  unfolding after_write with_track with_data
  body_in_track e =
      let z : track_start p t + k * slot_size p + 8 ≡ track_start p t + (k * slot_size p + 8) = omega arith in
      ap (λ (i : ℕ). splice i written (splice (track_start p t) bytes image)) z
      ∙ splice_inside (track_start p t) (track_size p) (k * slot_size p + 8) written bytes image l
      (omega (arith, e, slot_room p bytes l k hk)) (track_room p t (length image) h fits)
