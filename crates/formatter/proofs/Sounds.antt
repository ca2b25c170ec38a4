-- Tracks made sound from one on: what becomes of each track, and the loop that does it.
use mathlib.Core.Path.{◌≡◌, refl, ap, ◌∙◌}
use mathlib.Core.List.{List}
use Prim.Native.Nat.{ℕ, zero, suc, ◌+◌, ◌-◌, ◌≤◌, ◌<◌}
use native.Mathlib.Omega.{arith}
use native.Mathlib.Decide.{dec_lt}
use native.Mathlib.Nat.{add-zero}
use native.Mathlib.Numerals.{add-one}
use lib.ListN.{length}
use Rattle.geometry.specs.declared.params.Params.{Params}
use Rattle.geometry.specs.declared.params.Track.{Track}
use Rattle.geometry.specs.Params.{track_count, track_size, image_length, track, next_track}
use Rattle.track.specs.declared.state.State.TheVariants.{Sound}
use Rattle.track.specs.Image.{track_bytes, with_track}
use Rattle.track.proofs.Laws.{length_with_track, track_same, track_other}
use Rattle.formatter.specs.Format.{formatted, sound_from}
use Rattle.formatter.proofs.Formats.{length_formatted}

module _ (p : Params) (map fill : List ℕ) where
  sound_none : (t : Track) (image : List ℕ) → sound_from p map fill 0 t image ≡ image
  unfolding sound_from
  sound_none t image = refl

  -- one more, at the end
  sound_more : (n : ℕ) (t : Track) (image : List ℕ)
      → sound_from p map fill (suc n) t image ≡ with_track p (track (t.0 + n)) (formatted p (track (t.0 + n)) Sound map fill) (sound_from p map fill n t image)
  unfolding sound_from
  sound_more zero t image = rw add-zero
  sound_more (suc n) t image =
      let e : suc t.0 + n ≡ t.0 + suc n = omega arith in
      sound_more n (next_track t) (with_track p t (formatted p t Sound map fill) image)
      ∙ ap (λ (u : ℕ). with_track p (track u) (formatted p (track u) Sound map fill) (sound_from p map fill n (next_track t) (with_track p t (formatted p t Sound map fill) image))) e

module _ (p : Params) (map fill : List ℕ) (lm : length map ≡ p.sectors) (lf : length fill ≡ p.size) (s : Track) (image : List ℕ) (fits : image_length p ≤ length image) where
  long : (t : Track) → length (formatted p t Sound map fill) ≡ track_size p
  long t = length_formatted p t Sound map fill lm lf

  pub length_sound : (n : ℕ) → s.0 + n ≤ track_count p → length (sound_from p map fill n s image) ≡ length image
  length_sound zero h = rw sound_none
  length_sound (suc n) h =
      let e = length_sound n (omega arith) in
      rw (sound_more p map fill n s image)
      (length_with_track p (sound_from p map fill n s image) (rw e fits) (track (s.0 + n)) (formatted p (track (s.0 + n)) Sound map fill) (omega arith) (long (track (s.0 + n))) ∙ e)

  fits_sound : (n : ℕ) → s.0 + n ≤ track_count p → image_length p ≤ length (sound_from p map fill n s image)
  fits_sound n h = rw (length_sound n h) fits

  -- a track before them stays
  pub sound_before : (n : ℕ) (t : Track) → s.0 + n ≤ track_count p → t.0 < s.0 → track_bytes p t (sound_from p map fill n s image) ≡ track_bytes p t image
  sound_before zero t h l = rw sound_none
  sound_before (suc n) t h l =
      rw (sound_more p map fill n s image)
      (track_other p (sound_from p map fill n s image) (fits_sound n (omega arith)) (track (s.0 + n)) (formatted p (track (s.0 + n)) Sound map fill) (omega arith) (long (track (s.0 + n))) t (omega arith) (omega arith)
      ∙ sound_before n t (omega arith) l)

  -- each of them is formatted
  pub sound_in : (n : ℕ) (t : Track) → s.0 + n ≤ track_count p → s.0 ≤ t.0 → t.0 < s.0 + n → track_bytes p t (sound_from p map fill n s image) ≡ formatted p t Sound map fill
  sound_in zero t h l k = absurd (omega arith)
  sound_in (suc n) t h l k = rw (sound_more p map fill n s image) (by (dec_lt t.0 (s.0 + n)) (λ k'. sound_in n t (omega arith) l k'))
    where
      by : Dec (t.0 < s.0 + n) → (t.0 < s.0 + n → track_bytes p t (sound_from p map fill n s image) ≡ formatted p t Sound map fill)
          → track_bytes p t (with_track p (track (s.0 + n)) (formatted p (track (s.0 + n)) Sound map fill) (sound_from p map fill n s image)) ≡ formatted p t Sound map fill
      by (yes k') ih =
          track_other p (sound_from p map fill n s image) (fits_sound n (omega arith)) (track (s.0 + n)) (formatted p (track (s.0 + n)) Sound map fill) (omega arith) (long (track (s.0 + n))) t (omega arith) (omega arith)
          ∙ ih k'
      by (no k') ih =
          let e : s.0 + n ≡ t.0 = omega arith in
          ap (λ (u : ℕ). track_bytes p t (with_track p (track u) (formatted p (track u) Sound map fill) (sound_from p map fill n s image))) e
          ∙ track_same p (sound_from p map fill n s image) (fits_sound n (omega arith)) t (formatted p t Sound map fill) (omega arith) (long t)

-- ---- the loop: what is left to do at track t gives what the whole was to give, and so it does after one more
module _ (p : Params) (map fill whole : List ℕ) (t : ℕ) (image : List ℕ) where
  pub remade_more : (after : List ℕ) → t < track_count p → sound_from p map fill (track_count p - t) (track t) image ≡ whole
      → after ≡ with_track p (track t) (formatted p (track t) Sound map fill) image
      → sound_from p map fill (track_count p - (t + 1)) (track (t + 1)) after ≡ whole
  unfolding sound_from
  remade_more after h rest e =
      let c : track_count p - t ≡ suc (track_count p - suc t) = omega arith in
      rw (e, add-one) (rw c at rest)

  pub remade_all : track_count p ≤ t → sound_from p map fill (track_count p - t) (track t) image ≡ whole → image ≡ whole
  unfolding sound_from
  remade_all h rest = let c : track_count p - t ≡ 0 = omega arith in rw c at rest
