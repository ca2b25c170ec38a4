-- Laws of the code that makes a write: where it lies in the image, what it reads there, and which write step i is.
use mathlib.Core.Path.{◌≡◌, sym, ap, ◌∙◌}
use mathlib.Core.List.{List}
use Prim.Native.Nat.{ℕ, ◌+◌, ◌-◌, ◌*◌, ◌/◌, ◌%◌, ◌≤◌, ◌<◌}
use native.Mathlib.Omega.{arith}
use lib.ListN.{length, get_or}
use borrow.Rule.Slice.PartMut.{put_mid}
use Rattle.base.specs.Part.{part, splice}
use Rattle.base.proofs.Parts.{cell_in, part_part, splice_lent}
use Rattle.geometry.specs.declared.params.Params.{Params}
use Rattle.geometry.specs.declared.params.Track.{Track}
use Rattle.geometry.specs.Params.{Within, track_count, slot_size, track_size, image_length, track_start}
use Rattle.geometry.proofs.Sizes.{count_most}
use Rattle.track.specs.declared.state.State.TheVariants.{Moved, Taken}
use Rattle.track.specs.State.{partner_of}
use Rattle.track.specs.Id.{id_bytes, id_for}
use Rattle.track.specs.Image.{track_bytes, slot_data}
use Rattle.track.proofs.Laws.{track_room}
use Rattle.keeping.specs.Keep.{Write, slot_start, after_write, write_with}
use Rattle.keeping.proofs.Order.{leave_at, id_at, body_at}

-- ---- slot k of track t
-- within any image that is long enough
pub slot_inside : (p : Params) (t : Track) (k len : ℕ) → t.0 < track_count p → k < p.sectors → image_length p ≤ len → slot_start p t k + slot_size p ≤ len
slot_inside p t k len h hk l = omega (arith, track_room p t len h l, cell_in (slot_size p) k p.sectors hk)

-- its start as it is computed
module _ (p : Params) (t : Track) (k start size : ℕ) (es : start ≡ track_start p t) (ew : size ≡ slot_size p) where
  pub slot_at : start + k * size ≡ slot_start p t k
  slot_at = let z : k * size ≡ k * slot_size p = ap (λ (i : ℕ). k * i) ew in omega arith

-- ---- an ID, and data from another slot, as they are lent and copied
module _ (p : Params) (t : Track) (k place : ℕ) (e : place ≡ slot_start p t k) where
  pub id_stored : (id lent image : List ℕ) → lent ≡ id → length id ≡ 8 → put_mid place (place + 8 - place) image lent ≡ splice (slot_start p t k) id image
  id_stored id lent image el l =
      let z : place + length id ≡ place + 8 = omega arith in
      rw el (splice_lent place (place + 8) image id z ∙ ap (λ (i : ℕ). splice i id image) e)

  pub data_stored : (from : Track) (j source : ℕ) → j < p.sectors → source ≡ slot_start p from j → (image now : List ℕ)
      → now ≡ splice (place + 8) (part (source + 8) p.size image) image → now ≡ splice (slot_start p t k + 8) (slot_data p j (track_bytes p from image)) image
  unfolding slot_data track_bytes
  data_stored from j source hj es image now en =
      let at : source + 8 ≡ track_start p from + (j * slot_size p + 8) = omega arith in
      let there : part (source + 8) p.size image ≡ part (j * slot_size p + 8) p.size (part (track_start p from) (track_size p) image) =
      ap (λ (i : ℕ). part i p.size image) at
      ∙ sym (part_part (track_start p from) (track_size p) (j * slot_size p + 8) p.size image (omega (arith, cell_in (slot_size p) j p.sectors hj))) in
      en ∙ ap (λ (i : ℕ). splice (i + 8) (part (source + 8) p.size image) image) e ∙ ap (λ (b : List ℕ). splice (slot_start p t k + 8) b image) there

-- ---- what step i leaves is write i
module _ (p : Params) (from to : Track) (map : List ℕ) (sectors : ℕ → List ℕ) (image now : List ℕ) (i : ℕ) where
  is_write : (w : Write) → write_with p from to map sectors i ≡ w → now ≡ after_write p w image → now ≡ after_write p (write_with p from to map sectors i) image
  is_write w e is = is ∙ ap (λ (w : Write). after_write p w image) (sym e)

  pub step_leave : p.sectors * 2 ≤ i → now ≡ splice (slot_start p from (i - p.sectors * 2)) (id_bytes (id_for p from (Moved to) (get_or map (i - p.sectors * 2) 0))) image
      → now ≡ after_write p (write_with p from to map sectors i) image
  unfolding after_write
  step_leave h e = is_write _ (leave_at p from to map sectors i h) e

  module _ (h : i < p.sectors * 2) where
    pub step_id : i % 2 ≡ 0 → now ≡ splice (slot_start p to (i / 2)) (id_bytes (id_for p to (Taken from) (get_or map (i / 2) 0))) image
        → now ≡ after_write p (write_with p from to map sectors i) image
    unfolding after_write
    step_id r e = is_write _ (id_at p from to map sectors i h r) e

    pub step_body : (i % 2 ≡ 0 → ⊥) → now ≡ splice (slot_start p to (i / 2) + 8) (sectors (get_or map (i / 2) 0)) image
        → now ≡ after_write p (write_with p from to map sectors i) image
    unfolding after_write
    step_body r e = is_write _ (body_at p from to map sectors i h r) e

-- a partner is a track of the drive
module _ (p : Params) (within : Within p) (u : Track) (h : u.0 < track_count p) where
  pub moved_partner : (partner_of (Moved u)).0 < 65536
  unfolding partner_of
  moved_partner = omega (arith, count_most p within)

  pub taken_partner : (partner_of (Taken u)).0 < 65536
  unfolding partner_of
  taken_partner = omega (arith, count_most p within)
