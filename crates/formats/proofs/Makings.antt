-- What the format commands make of an image.
use mathlib.Core.Path.{◌≡◌, refl, sym, ap, ◌∙◌}
use mathlib.Core.Bool.{Bool, true, false, not, ◌&&◌}
use mathlib.Core.List.{List, ◌∷◌, ◌++◌}
use Prim.Native.Nat.{ℕ, zero, suc, ◌+◌, ◌-◌, ◌≤◌, ◌<◌}
use native.Mathlib.Omega.{arith}
use lib.ListN.{length, take, drop, replicate, length-append}
use lib.Seq.{take_at}
use Rattle.base.specs.Part.{part, splice}
use Rattle.base.proofs.Decide.{pick_true, pick-false}
use Rattle.base.proofs.Fronts.{front_lent}
use Rattle.base.proofs.Parts.{part_lent}
use Rattle.geometry.specs.declared.params.Params.{Params}
use Rattle.geometry.specs.declared.params.Track.{Track}
use Rattle.geometry.specs.declared.medium.Medium.{Medium}
use Rattle.geometry.specs.Params.{track_count, track_of}
use Rattle.geometry.specs.Medium.{medium_of, is_floppy}
use Rattle.geometry.specs.Config.{label_rest}
use Rattle.interleave.specs.Layout.{layout_of}
use Rattle.interleave.proofs.Layouts.{layout_length}
use Rattle.track.specs.declared.state.State.{State}
use Rattle.track.specs.Image.{with_track}
use Rattle.formatter.specs.Format.{formatted, sound_from}
use Rattle.model.specs.declared.block.Block.{Block}
use Rattle.model.specs.Block.{from_buffer}
use Rattle.model.specs.Commands.{plain_byte, plain_fill, fill_of, made_at, drive_formatted}

-- ---- the fill
take_replicate : (n m v : ℕ) → n ≤ m → take n (replicate m v) ≡ replicate n v
take_replicate zero m v h = refl
take_replicate (suc n) zero v h = absurd (omega arith)
take_replicate (suc n) (suc m) v h = ap (λ (l : List ℕ). v ∷ l) (take_replicate n m v (omega arith))

pub plain_part : (medium : Medium) (p : Params) (byte : ℕ) → p.size ≤ 512 → byte ≡ plain_byte medium
    → part 0 p.size (replicate 512 byte) ≡ plain_fill medium p
unfolding part plain_fill
plain_part medium p byte h e = take_replicate p.size 512 byte h ∙ ap (replicate p.size) e

-- as a call gives it for a drive
pub plain_of : (drive : ℕ) (medium : Medium) (p : Params) (fill : List ℕ) → medium ≡ medium_of drive → part 0 p.size fill ≡ plain_fill medium p
    → part 0 p.size fill ≡ plain_fill (medium_of drive) p
plain_of drive medium p fill em ef = ef ∙ ap (λ (m : Medium). plain_fill m p) em

-- by control bit 5 and the drive's medium
module _ (b : Block) (p : Params) (buffer : List ℕ) (medium : Medium) (em : medium ≡ medium_of b.drive) (bit other : Bool)
    (eb : bit ≡ from_buffer b) (eo : other ≡ not (is_floppy medium)) where
  asked : (from_buffer b && not (is_floppy (medium_of b.drive))) ≡ (bit && other)
  asked = rw (← em, ← eo, ← eb)

  pub fill_taken : (bit && other) ≡ true → (fill : List ℕ) → fill ≡ buffer → part 0 p.size fill ≡ fill_of b p buffer
  unfolding fill_of
  fill_taken on fill is = ap (part 0 p.size) is ∙ sym (pick_true _ _ _ (asked ∙ on))

  pub fill_plain : (bit && other) ≡ false → (fill : List ℕ) → part 0 p.size fill ≡ plain_fill medium p → part 0 p.size fill ≡ fill_of b p buffer
  unfolding fill_of
  fill_plain off fill is = plain_of b.drive medium p fill em is ∙ sym (pick-false _ _ _ (asked ∙ off))

-- ---- the layout lent: the first n of its 32 entries
pub layout_lent : (n f : ℕ) (map : List ℕ) → f < n → map ≡ layout_of n f ++ replicate (32 - n) n → take (n - 0) map ≡ layout_of n f
layout_lent n f map h e =
    let z : n - 0 ≡ n = omega arith in
    rw (e, z) (take_at (layout_of n f) (replicate (32 - n) n) n (layout_length n f (omega arith)))

module _ (b : Block) (p : Params) (fill image map : List ℕ) (h : b.extra < p.sectors)
    (em : map ≡ layout_of p.sectors b.extra ++ replicate (32 - p.sectors) p.sectors) where
  pub made_lent : (t : Track) (state : State) (left : List ℕ) → left ≡ with_track p t (formatted p t state (take (p.sectors - 0) map) fill) image
      → left ≡ made_at b p t state fill image
  unfolding made_at
  made_lent t state left e = rw (← layout_lent p.sectors b.extra map h em) e

  pub drive_lent : (t : Track) (config left labelled : List ℕ) → t ≡ track_of p b.address
      → left ≡ sound_from p (take (p.sectors - 0) map) fill (track_count p - t.0) t image → labelled ≡ splice 0 (config ++ label_rest) left
      → labelled ≡ drive_formatted b p config fill image
  unfolding drive_formatted
  drive_lent t config left labelled et es el = el ∙ ap (splice 0 (config ++ label_rest)) (es ∙ rw (et, layout_lent p.sectors b.extra map h em))

-- ---- the label: ten bytes and six zeros
pub label_long : (config copied : List ℕ) → length config ≡ 10 → copied ≡ config → length (copied ++ label_rest) ≡ 16
label_long config copied h e = length-append copied label_rest ∙ ap (λ (l : List ℕ). length l + 6) e ∙ ap (λ (n : ℕ). n + 6) h

pub label_put : (config copied image left : List ℕ) → length config ≡ 10 → copied ≡ config → left ≡ copied ++ label_rest
    → left ++ drop 16 image ≡ splice 0 (config ++ label_rest) image
label_put config copied image left ten ec el =
    rw (← ec) (front_lent (copied ++ label_rest) image left 16 (label_long config copied ten ec) el)

-- ---- the sector's bytes lent of 512
pub fill_lent : (size : ℕ) (fill : List ℕ) → take (size - 0) fill ≡ part 0 size fill
fill_lent size fill = part_lent 0 size size fill (omega arith)

-- ---- a track's bound, by what a call gives
pub bound_of : (t u : Track) (n : ℕ) → t ≡ u → u.0 < n → t.0 < n
bound_of t u n e h = rw e h
