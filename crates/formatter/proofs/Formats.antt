-- What a format writes: its length, each slot's ID and data.
use mathlib.Core.Path.{◌≡◌, sym, ap, ◌∙◌}
use mathlib.Core.List.{List}
use Prim.Native.Nat.{ℕ, ◌+◌, ◌*◌, ◌≤◌, ◌<◌}
use native.Mathlib.Omega.{arith}
use native.Mathlib.Nat.{mul-le-mul_left, zero-mul}
use lib.ListN.{length, get_or, length-append}
use lib.Seq.{take_at, drop_at, take_all}
use Rattle.base.specs.Part.{part, rows}
use Rattle.base.proofs.Parts.{length_rows, part_row, row_front, cell_in}
use Rattle.geometry.specs.declared.params.Params.{Params}
use Rattle.geometry.specs.declared.params.Track.{Track}
use Rattle.geometry.specs.Params.{slot_size, track_size}
use Rattle.track.specs.declared.id.Id.{Id}
use Rattle.track.specs.declared.state.State.{State}
use Rattle.track.specs.Id.{id_bytes, id_for, with_sector}
use Rattle.track.specs.Image.{slot_id, slot_data}
use Rattle.track.proofs.Laws.{id_length, sector_for}
use Rattle.formatter.specs.Format.{slot_made, slots_made, formatted}

-- ---- slots made
module _ (id : Id) (map fill : List ℕ) where
  pub length_slot : (k : ℕ) → length (slot_made id map fill k) ≡ 8 + length fill
  unfolding slot_made
  length_slot k = length-append (id_bytes (with_sector id (get_or map k 0))) fill ∙ ap (λ (n : ℕ). n + length fill) (id_length (with_sector id (get_or map k 0)))

  pub length_slots : length (slots_made id map fill) ≡ length map * (8 + length fill)
  unfolding slots_made
  length_slots = length_rows (slot_made id map fill) (8 + length fill) (length map) (λ k l. length_slot k)

  pub slot_id_lem : (k : ℕ) → part 0 8 (slot_made id map fill k) ≡ id_bytes (with_sector id (get_or map k 0))
  unfolding slot_made part
  slot_id_lem k = take_at (id_bytes (with_sector id (get_or map k 0))) fill 8 (id_length (with_sector id (get_or map k 0)))

  pub slot_fill : (size k : ℕ) → length fill ≡ size → part 8 size (slot_made id map fill k) ≡ fill
  unfolding slot_made part
  slot_fill size k l = rw (drop_at (id_bytes (with_sector id (get_or map k 0))) fill 8 (id_length (with_sector id (get_or map k 0)))) (take_all size fill (omega arith))

-- ---- a formatted track
module _ (p : Params) (t : Track) (state : State) (map fill : List ℕ) (lm : length map ≡ p.sectors) (lf : length fill ≡ p.size) where
  pub length_formatted : length (formatted p t state map fill) ≡ track_size p
  unfolding formatted
  length_formatted = length_slots (id_for p t state 0) map fill ∙ rw (lm, lf)

  width : (k : ℕ) → length (slot_made (id_for p t state 0) map fill k) ≡ slot_size p
  width k = length_slot (id_for p t state 0) map fill k ∙ ap (λ (n : ℕ). 8 + n) lf

  pub id_formatted : (k : ℕ) → k < p.sectors → slot_id p k (formatted p t state map fill) ≡ id_bytes (id_for p t state (get_or map k 0))
  unfolding formatted slots_made slot_id
  id_formatted k h =
      row_front (slot_made (id_for p t state 0) map fill) (slot_size p) (length map) k 8 width (omega arith) (omega arith)
      ∙ slot_id_lem (id_for p t state 0) map fill k ∙ ap id_bytes (sector_for p t state 0 (get_or map k 0))

  pub data_formatted : (k : ℕ) → k < p.sectors → slot_data p k (formatted p t state map fill) ≡ fill
  unfolding formatted slots_made slot_data
  data_formatted k h =
      part_row (slot_made (id_for p t state 0) map fill) (slot_size p) (length map) k 8 p.size width (omega arith) (omega arith)
      ∙ slot_fill (id_for p t state 0) map fill p.size k lf

-- ---- what a format writes, with a fill of at most D bytes: no more than a track, and slot 0 begins with its ID
pub formatted_most : (p : Params) (map fill : List ℕ) → length map ≡ p.sectors → length fill ≤ p.size → (t : Track) (state : State)
    → length (formatted p t state map fill) ≤ track_size p
unfolding formatted
formatted_most p map fill lm lf t state =
    let e : length map * (8 + length fill) ≡ p.sectors * (8 + length fill) = ap (λ (n : ℕ). n * (8 + length fill)) lm in
    let le : 8 + length fill ≤ 8 + p.size = omega arith in
    omega (arith, e, length_slots (id_for p t state 0) map fill, mul-le-mul_left p.sectors le)

module _ (p : Params) (t : Track) (state : State) (map fill : List ℕ) (some_slot : 0 < length map) where
  pub formatted_least : 8 ≤ length (formatted p t state map fill)
  unfolding formatted
  formatted_least =
      omega (arith, length_slots (id_for p t state 0) map fill, cell_in (8 + length fill) 0 (length map) some_slot, zero-mul (8 + length fill))

  pub formatted_front : part 0 8 (formatted p t state map fill) ≡ id_bytes (id_for p t state (get_or map 0 0))
  unfolding formatted slots_made
  formatted_front =
      let id = id_for p t state 0 in
      let width = 8 + length fill in
      ap (λ (i : ℕ). part i 8 (rows (slot_made id map fill) (length map))) (sym (zero-mul width))
      ∙ row_front (slot_made id map fill) width (length map) 0 8 (length_slot id map fill) some_slot (omega arith)
      ∙ slot_id_lem id map fill 0 ∙ ap id_bytes (sector_for p t state 0 (get_or map 0 0))
