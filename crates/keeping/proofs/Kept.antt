-- The image after a whole move: A and B have the IDs of a format, and B has A's data in their slots.
use mathlib.Core.Path.{◌≡◌, refl, ap, ◌∙◌}
use mathlib.Core.List.{List}
use Prim.Native.Nat.{ℕ, suc, ◌+◌, ◌-◌, ◌*◌, ◌≤◌, ◌<◌}
use native.Mathlib.Omega.{arith}
use native.Mathlib.Decide.{dec_lt}
use lib.ListN.{get_or}
use Rattle.geometry.specs.declared.params.Params.{Params}
use Rattle.geometry.specs.declared.params.Track.{Track}
use Rattle.interleave.specs.Layout.{layout_of}
use Rattle.interleave.proofs.Layouts.{layout_length, layout_below, layout_has}
use Rattle.track.specs.declared.state.State.TheVariants.{Moved, Taken}
use Rattle.track.specs.Image.{Fits, track_bytes, slot_id, slot_data}
use Rattle.formatter.proofs.Laws.{Formed}
use Rattle.contents.specs.Content.{content_at, read_bytes}
use Rattle.keeping.specs.Keep.{kept, after_writes, Mapped, Keepable}
use Rattle.keeping.specs.Power.{unbegun, finished, Interrupted}
use Rattle.keeping.proofs.Order.{writes_more}
use Rattle.keeping.proofs.Leaving.{Left, left, left_here, left_there}

-- an interleave's layout is such a map
pub layout_maps : (n f : ℕ) → 0 < n → Mapped n (layout_of n f)
layout_maps n f h = record { long = layout_length n f h; below = layout_below n f h; has = layout_has n f h }

module _ (p : Params) (from to : Track) (map image : List ℕ) (fits : Fits p image) (maps : Mapped p.sectors map) (may : Keepable p from to image) where
  kept_left : Left p from to map image (kept p from to map image) p.sectors
  unfolding kept
  kept_left = let e : p.sectors * 3 ≡ p.sectors * 2 + p.sectors = omega arith in rw e (left p from to map image fits maps may p.sectors (omega arith))

  -- a move that power does not interrupt is one that it interrupts too late
  pub kept_late : Interrupted p from to map image (kept p from to map image)
  unfolding kept
  kept_late =
      let last : p.sectors * 3 ≡ suc (p.sectors * 3 - 1) = omega (arith, fits.within.sectors_some) in
      record {
        i = p.sectors * 3 - 1;
        within = omega (arith, fits.within.sectors_some);
        cut = finished (ap (after_writes p from to map image) last ∙ writes_more p from to map image (p.sectors * 3 - 1));
      }

  -- any number of writes, with none cut short
  pub writes_cut : (i : ℕ) → i ≤ p.sectors * 3 → Interrupted p from to map image (after_writes p from to map image i)
  unfolding kept
  writes_cut i h = by (dec_lt i (p.sectors * 3))
    where
      by : Dec (i < p.sectors * 3) → Interrupted p from to map image (after_writes p from to map image i)
      by (yes l) = record { i = i; within = l; cut = unbegun refl }
      by (no l) = let e : i ≡ p.sectors * 3 = omega arith in rw e kept_late

  -- B's slot k has A's sector of that slot
  pub kept_there : (k : ℕ) → k < p.sectors → slot_data p k (track_bytes p to (kept p from to map image)) ≡ read_bytes (content_at p from (get_or map k 0) image)
  kept_there k h = ap (slot_data p k) (left_there p from to map image fits maps may _ _ kept_left) ∙ kept_left.copied.bodies k h (omega arith)

  module _ (f : ℕ) (laid : map ≡ layout_of p.sectors f) where
    pub kept_moved : Formed p from (Moved to) f (kept p from to map image)
    kept_moved = record { ids = λ k h. ap (slot_id p k) (left_here p from to map image fits maps may _ _ kept_left) ∙ kept_left.ids k h h ∙ rw laid }

    pub kept_taken : Formed p to (Taken from) f (kept p from to map image)
    kept_taken = record { ids = λ k h. ap (slot_id p k) (left_there p from to map image fits maps may _ _ kept_left) ∙ kept_left.copied.ids k h (omega arith) ∙ rw laid }
