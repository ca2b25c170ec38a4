-- What a move leaves as it was, wherever it is interrupted: the image's length, what is before and behind its tracks, every track but A and B.
use mathlib.Core.Path.{◌≡◌, ap, ◌∙◌}
use mathlib.Core.Logic.{◌⊎◌, inl, inr}
use mathlib.Core.List.{List}
use Prim.Native.Nat.{ℕ, ◌+◌, ◌≤◌, ◌<◌}
use lib.ListN.{length}
use native.Mathlib.Omega.{arith}
use Rattle.base.specs.Part.{part}
use Rattle.base.proofs.Parts.{part_after}
use Rattle.geometry.specs.declared.params.Params.{Params}
use Rattle.geometry.specs.declared.params.Track.{Track}
use Rattle.geometry.specs.Params.{track_count, track_size, image_length, track_start}
use Rattle.track.specs.Image.{Fits, track_bytes, with_track}
use Rattle.track.proofs.Laws.{track_room, length_with_track, label_kept}
use Rattle.keeping.specs.Keep.{Mapped, Keepable}
use Rattle.keeping.specs.Power.{Interrupted}
use Rattle.keeping.proofs.Before.{unmoved_length, unmoved_track}
use Rattle.keeping.proofs.Leaving.{left_other, there_fits}
use Rattle.keeping.proofs.Phases.{Phase, phase}

-- a part before the tracks or behind them, with a track's stretch replaced
beyond_track : (p : Params) (t : Track) (image bytes : List ℕ) → t.0 < track_count p → image_length p ≤ length image → length bytes ≡ track_size p
    → (at size : ℕ) → (at + size ≤ 16) ⊎ (image_length p ≤ at) → part at size (with_track p t bytes image) ≡ part at size image
unfolding with_track
beyond_track p t image bytes h fits l at size (inl before) = label_kept p image fits t bytes h l at size before
beyond_track p t image bytes h fits l at size (inr past) =
    part_after at size (track_start p t) bytes image (omega (arith, l, track_room p t (image_length p) h (omega arith))) (omega (arith, l, track_room p t (length image) h fits))

module _ (p : Params) (from to : Track) (map image : List ℕ) (fits : Fits p image) (maps : Mapped p.sectors map) (may : Keepable p from to image) (after : List ℕ) where
  length_in : Phase p from to map image fits maps may after → length after ≡ length image
  length_in (inl u) = unmoved_length p from to map image after fits may u
  length_in (inr (j, h, x)) =
      ap length x.is
      ∙ length_with_track p (with_track p to x.there image) (there_fits p from to map image fits maps may x.there x.there_long) from x.here may.from_in x.here_long
      ∙ length_with_track p image fits.long to x.there may.to_in x.there_long

  beyond_in : (at size : ℕ) → (at + size ≤ 16) ⊎ (image_length p ≤ at) → Phase p from to map image fits maps may after → part at size after ≡ part at size image
  beyond_in at size h (inl u) = ap (part at size) u.is ∙ beyond_track p to image u.stretch may.to_in fits.long u.long at size h
  beyond_in at size h (inr (j, l, x)) =
      ap (part at size) x.is
      ∙ beyond_track p from (with_track p to x.there image) x.here may.from_in (there_fits p from to map image fits maps may x.there x.there_long) x.here_long at size h
      ∙ beyond_track p to image x.there may.to_in fits.long x.there_long at size h

  track_in : (t : Track) → t.0 < track_count p → (t.0 ≡ from.0 → ⊥) → (t.0 ≡ to.0 → ⊥) → Phase p from to map image fits maps may after → track_bytes p t after ≡ track_bytes p t image
  track_in t h nf nt (inl u) = unmoved_track p from to map image after fits may u t h nt
  track_in t h nf nt (inr (j, l, x)) = left_other p from to map image fits maps may after j x t h nf nt

  module _ (x : Interrupted p from to map image after) where
    pub same_length : length after ≡ length image
    same_length = length_in (phase p from to map image fits maps may after x)

    -- before the first track and past the last one
    pub same_beyond : (at size : ℕ) → (at + size ≤ 16) ⊎ (image_length p ≤ at) → part at size after ≡ part at size image
    same_beyond at size h = beyond_in at size h (phase p from to map image fits maps may after x)

    pub same_track_in : (t : Track) → t.0 < track_count p → (t.0 ≡ from.0 → ⊥) → (t.0 ≡ to.0 → ⊥) → track_bytes p t after ≡ track_bytes p t image
    same_track_in t h nf nt = track_in t h nf nt (phase p from to map image fits maps may after x)
