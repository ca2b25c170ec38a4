-- What a track or a sector's data put into an image leaves as it was.
use mathlib.Core.Path.{◌≡◌, refl, sym, ap, ◌∙◌}
use mathlib.Core.List.{List}
use Prim.Native.Nat.{ℕ, ◌+◌, ◌-◌, ◌*◌, ◌≤◌, ◌<◌}
use native.Mathlib.Omega.{arith}
use native.Mathlib.Decide.{dec_lt}
use native.Mathlib.Nat.{mul-le-mul_right}
use lib.ListN.{length, take, drop}
use borrow.Rule.Slice.PartMut.{put_mid}
use Rattle.base.specs.Part.{part, splice}
use Rattle.base.proofs.Parts.{length_part, length_splice, part_same, part_before, part_after, part_part, other_cell, cell_in, part_lent, splice_lent}
use Rattle.base.proofs.Splices.{splice_part}
use Rattle.geometry.specs.declared.params.Params.{Params}
use Rattle.geometry.specs.declared.params.Track.{Track}
use Rattle.geometry.specs.Params.{track_count, slot_size, track_size, image_length, track_start}
use Rattle.track.specs.Image.{track_bytes, with_track, slot_bytes, slot_id, slot_data, with_data}

-- ---- a track in an image
module _ (p : Params) where
  pub track_room : (t : Track) (len : ℕ) → t.0 < track_count p → image_length p ≤ len → track_start p t + track_size p ≤ len
  track_room t len h f = omega (arith, cell_in (track_size p) t.0 (track_count p) h)

  module _ (image : List ℕ) (fits : image_length p ≤ length image) where
    pub length_track : (t : Track) → t.0 < track_count p → length (track_bytes p t image) ≡ track_size p
    unfolding track_bytes
    length_track t h = length_part (track_start p t) (track_size p) image (track_room t (length image) h fits)

    -- put back where it was
    pub track_back : (t : Track) → t.0 < track_count p → with_track p t (track_bytes p t image) image ≡ image
    unfolding with_track track_bytes
    track_back t h = splice_part (track_start p t) (track_size p) image (track_room t (length image) h fits)

    module _ (t : Track) (bytes : List ℕ) (h : t.0 < track_count p) (l : length bytes ≡ track_size p) where
      pub length_with_track : length (with_track p t bytes image) ≡ length image
      unfolding with_track
      length_with_track = length_splice (track_start p t) bytes image (omega (arith, l, track_room t (length image) h fits))

      -- the track itself
      pub track_same : track_bytes p t (with_track p t bytes image) ≡ bytes
      unfolding track_bytes with_track
      track_same = part_same (track_start p t) (track_size p) bytes image l (track_room t (length image) h fits)

      -- every other track
      pub track_other : (u : Track) → u.0 < track_count p → (t.0 ≡ u.0 → ⊥) → track_bytes p u (with_track p t bytes image) ≡ track_bytes p u image
      unfolding track_bytes with_track
      track_other u hu ne =
          other_cell (track_size p) t.0 u.0 (track_start p t) (track_start p u) (track_size p) 16 bytes image ne
          (omega arith) (omega (arith, l)) (omega arith) (omega arith) (omega (arith, l, track_room t (length image) h fits))

      -- the label
      pub label_kept : (at size : ℕ) → at + size ≤ 16 → part at size (with_track p t bytes image) ≡ part at size image
      unfolding with_track
      label_kept at size k = part_before at size (track_start p t) bytes image (omega arith) (omega (arith, l, track_room t (length image) h fits))

-- ---- a sector's data in a track's stretch
module _ (p : Params) (bytes : List ℕ) (l : length bytes ≡ track_size p) where
  -- a slot and its parts
  pub slot_room : (k : ℕ) → k < p.sectors → k * slot_size p + slot_size p ≤ track_size p
  slot_room k h = cell_in (slot_size p) k p.sectors h

  -- a slot's data are D bytes
  pub length_data : (k : ℕ) → k < p.sectors → length (slot_data p k bytes) ≡ p.size
  unfolding slot_data
  length_data k h = length_part (k * slot_size p + 8) p.size bytes (omega (arith, slot_room k h))

  pub data_of_slot : (k : ℕ) → part 8 p.size (slot_bytes p k bytes) ≡ slot_data p k bytes
  unfolding slot_bytes slot_data
  data_of_slot k = part_part (k * slot_size p) (slot_size p) 8 p.size bytes (omega arith)

  -- slot k as it is lent, its ID and its data lent of it
  module _ (k : ℕ) (h : k < p.sectors) where
    pub length_slot : length (slot_bytes p k bytes) ≡ slot_size p
    unfolding slot_bytes
    length_slot = length_part (k * slot_size p) (slot_size p) bytes (omega (arith, l, slot_room k h))

    module _ (slot : List ℕ) (e : slot ≡ slot_bytes p k bytes) where
      pub id_of_slot : take 8 slot ≡ slot_id p k bytes
      unfolding slot_bytes slot_id part
      id_of_slot =
          let z : k * slot_size p + 0 ≡ k * slot_size p = omega arith in
          ap (take 8) e ∙ rw z at (part_part (k * slot_size p) (slot_size p) 0 8 bytes (omega arith))

      pub data_lent_of : length slot ≡ slot_size p → take (length slot - 8) (drop 8 slot) ≡ slot_data p k bytes
      data_lent_of es = part_lent 8 (length slot) p.size slot (sym es) ∙ ap (part 8 p.size) e ∙ data_of_slot k

  module _ (k : ℕ) (sector : List ℕ) (h : k < p.sectors) (ls : length sector ≡ p.size) where
    data_room : k * slot_size p + 8 + length sector ≤ length bytes
    data_room = omega (arith, ls, l, slot_room k h)

    pub length_with_data : length (with_data p k sector bytes) ≡ track_size p
    unfolding with_data
    length_with_data = length_splice (k * slot_size p + 8) sector bytes data_room ∙ l

    pub data_same : slot_data p k (with_data p k sector bytes) ≡ sector
    unfolding slot_data with_data
    data_same = part_same (k * slot_size p + 8) p.size sector bytes ls (rw ls at data_room)

    pub data_other : (j : ℕ) → j < p.sectors → (k ≡ j → ⊥) → slot_data p j (with_data p k sector bytes) ≡ slot_data p j bytes
    unfolding slot_data with_data
    data_other j hj ne =
        other_cell (slot_size p) k j (k * slot_size p + 8) (j * slot_size p + 8) p.size 0 sector bytes ne
        (omega arith) (omega (arith, ls)) (omega arith) (omega arith) data_room

    -- every ID stays
    pub id_kept : (j : ℕ) → j < p.sectors → slot_id p j (with_data p k sector bytes) ≡ slot_id p j bytes
    unfolding slot_id with_data
    id_kept j hj = by (dec_lt k j)
      where
        by : Dec (k < j) → part (j * slot_size p) 8 (splice (k * slot_size p + 8) sector bytes) ≡ part (j * slot_size p) 8 bytes
        by (yes lt) = part_after (j * slot_size p) 8 (k * slot_size p + 8) sector bytes (omega (arith, ls, cell_in (slot_size p) k j lt)) data_room
        by (no ge) =
            let le : j ≤ k = omega arith in
            part_before (j * slot_size p) 8 (k * slot_size p + 8) sector bytes (omega (arith, mul-le-mul_right (slot_size p) le)) data_room

-- ---- what is lent of an image
pub track_lent : (p : Params) (t : Track) (image : List ℕ) (start end : ℕ) → start ≡ track_start p t → end ≡ track_start p t + track_size p
    → take (end - start) (drop start image) ≡ track_bytes p t image
unfolding track_bytes
track_lent p t image start end es ee = part_lent start end (track_size p) image (omega arith) ∙ ap (λ (i : ℕ). part i (track_size p) image) es

-- slot k, lent of a track; `size` is a slot's
module _ (p : Params) (k size : ℕ) (ez : size ≡ slot_size p) where
  pub slot_lent : (bytes : List ℕ) → take (k * size + size - k * size) (drop (k * size) bytes) ≡ slot_bytes p k bytes
  unfolding slot_bytes
  slot_lent bytes = rw ez (part_lent (k * slot_size p) (k * slot_size p + slot_size p) (slot_size p) bytes refl)

  -- its data, lent and replaced
  pub data_lent : (sector lent bytes : List ℕ) → length sector ≡ p.size → lent ≡ sector
      → put_mid (k * size + 8) (k * size + 8 + p.size - (k * size + 8)) bytes lent ≡ with_data p k sector bytes
  unfolding with_data
  data_lent sector lent bytes ls e =
      let at : ℕ = k * slot_size p + 8 in
      rw (ez, e) (splice_lent at (at + p.size) bytes sector (ap (λ (n : ℕ). at + n) ls))
