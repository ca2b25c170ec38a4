-- The steps of a move, each of which copies from the image as it stands: what it writes is the same as from the start.
use mathlib.Core.Path.{◌≡◌, sym, ap, ◌∙◌}
use mathlib.Core.List.{List}
use Prim.Native.Nat.{ℕ, ◌+◌, ◌*◌, ◌/◌, ◌≤◌, ◌<◌}
use native.Mathlib.Omega.{arith}
use native.Mathlib.Decide.{dec_lt}
use native.Mathlib.Numerals.{add-one}
use lib.ListN.{length, get_or}
use Rattle.geometry.specs.declared.params.Params.{Params}
use Rattle.geometry.specs.declared.params.Track.{Track}
use Rattle.geometry.specs.Params.{track_count}
use Rattle.track.specs.Image.{Fits, track_bytes, slot_data}
use Rattle.track.proofs.Laws.{on_same, located_there, located_in}
use Rattle.track.specs.Search.{Note}
use Rattle.contents.specs.Content.{read_bytes}
use Rattle.keeping.specs.Keep.{slot_noted, Write, after_write, write_with, sectors_of, noted_data, write_of, after_writes, Mapped, Noting, Located, Keepable}
use Rattle.keeping.proofs.Reading.{content_slot}
use Rattle.keeping.proofs.Order.{leave_at, writes_none, writes_more}
use Rattle.keeping.proofs.Copying.{copied}
use Rattle.keeping.proofs.Before.{unmoved_track}
use Rattle.keeping.proofs.Outside.{same_length}
use Rattle.keeping.proofs.Kept.{writes_cut}

module _ (p : Params) (from to : Track) (map : List ℕ) (x y : ℕ → List ℕ) (i : ℕ) where
  -- of the data a write looks at its sector's alone
  write_by : x (get_or map (i / 2) 0) ≡ y (get_or map (i / 2) 0) → write_with p from to map x i ≡ write_with p from to map y i
  unfolding write_with
  write_by e = rw e

  -- one of A's looks at none
  write_late : p.sectors * 2 ≤ i → write_with p from to map x i ≡ write_with p from to map y i
  write_late h = leave_at p from to map x i h ∙ sym (leave_at p from to map y i h)

-- ---- the slots noted
module _ (p : Params) (from : Track) (slots : List Note) (image : List ℕ) (located : Located p from slots image) where
  pub located_noting : from.0 < track_count p → length slots ≡ 32 → Noting p.sectors slots
  unfolding Located
  located_noting h l = record { long = l; noted = λ s hs. (located s hs).0; below = λ s hs. let r = located s hs in (located_in p from s image r.1 _ r.2 h).1 }

  -- they have the sectors' data, as long as A's stretch stays
  located_data : (to : Track) → Keepable p from to image → (now : List ℕ) → track_bytes p from now ≡ track_bytes p from image → (s : ℕ) → s < p.sectors
      → noted_data p from slots now s ≡ sectors_of p from image s
  unfolding Located read_bytes
  located_data to may now same s h =
      let r = located s h in
      let u : r.1 ≡ from = on_same r.1 from (sym (located_there p from s image r.1 _ r.2).0 ∙ may.home) in
      ap (slot_data p (slot_noted slots s)) same ∙ ap (λ (t : Track). slot_data p (slot_noted slots s) (track_bytes p t image)) (sym u)
      ∙ sym (ap read_bytes (content_slot p from r.1 s _ image r.2))

module _ (p : Params) (from to : Track) (map : List ℕ) (slots : List Note) (image : List ℕ) (fits : Fits p image) (maps : Mapped p.sectors map) (may : Keepable p from to image)
    (located : Located p from slots image) where
  write_same : (i : ℕ) → write_with p from to map (noted_data p from slots (after_writes p from to map image i)) i ≡ write_of p from to map image i
  unfolding write_of
  write_same i = by (dec_lt i (p.sectors * 2))
    where
      by : Dec (i < p.sectors * 2) → write_with p from to map (noted_data p from slots (after_writes p from to map image i)) i ≡ write_of p from to map image i
      by (yes l) =
          let same = unmoved_track p from to map image _ fits may (copied p from to map image fits maps may i (omega arith)).0 from may.from_in may.apart in
          write_by p from to map _ _ i (located_data p from slots image located to may _ same (get_or map (i / 2) 0) (maps.below (i / 2) (omega arith)))
      by (no l) = write_late p from to map _ _ i (omega arith)

-- ---- the loop over the steps
-- i of the writes are made
pub record Stepped (p : Params) (from to : Track) (map image now : List ℕ) (count i : ℕ) : Type 0 where
  pub most : i ≤ count
  pub is : now ≡ after_writes p from to map image i

pub stepped_none : (p : Params) (from to : Track) (map image : List ℕ) (count : ℕ) → Stepped p from to map image image count 0
stepped_none p from to map image count = record { most = omega arith; is = sym (writes_none p from to map image) }

module _ (p : Params) (from to : Track) (map image : List ℕ) (fits : Fits p image) (maps : Mapped p.sectors map) (may : Keepable p from to image)
    (now : List ℕ) (count i : ℕ) (within : count ≤ p.sectors * 3) (w : Stepped p from to map image now count i) where
  pub stepped_length : length now ≡ length image
  stepped_length = ap length w.is ∙ same_length p from to map image fits maps may _ (writes_cut p from to map image fits maps may i (omega (arith, w.most)))

  pub stepped_fits : Fits p now
  stepped_fits = record { within = fits.within; long = omega (arith, fits.long, stepped_length) }

  pub stepped_more : (slots : List Note) → Located p from slots image → (next : List ℕ) → i < count
      → next ≡ after_write p (write_with p from to map (noted_data p from slots now) i) now → Stepped p from to map image next count (i + 1)
  stepped_more slots located next h e =
      let same : write_with p from to map (noted_data p from slots now) i ≡ write_of p from to map image i =
      ap (λ (x : List ℕ). write_with p from to map (noted_data p from slots x) i) w.is ∙ write_same p from to map slots image fits maps may located i in
      record {
        most = omega arith;
        is = e ∙ ap (λ (x : Write). after_write p x now) same ∙ ap (after_write p (write_of p from to map image i)) w.is ∙ sym (writes_more p from to map image i)
            ∙ ap (after_writes p from to map image) (sym (add-one i));
      }
