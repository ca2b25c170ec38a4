-- What the addresses of formatted tracks read, in any image that a format has left.
use mathlib.Core.Path.{◌≡◌, refl, sym, ap, ◌∙◌}
use mathlib.Core.List.{List}
use Prim.Native.Nat.{ℕ, ◌-◌, ◌≤◌, ◌<◌}
use native.Mathlib.Omega.{arith}
use lib.ListN.{length}
use Rattle.geometry.specs.declared.params.Params.{Params}
use Rattle.geometry.specs.declared.params.Lba.{Lba}
use Rattle.geometry.specs.declared.params.Track.{Track}
use Rattle.geometry.specs.Params.{Within, track_count, track_of, sector_of, OnDrive}
use Rattle.geometry.proofs.Addresses.{track_in, sector_in_lem}
use Rattle.interleave.specs.Layout.{layout_of}
use Rattle.interleave.proofs.Layouts.{layout_length}
use Rattle.interleave.proofs.Slots.{slot_of, slot_lt}
use Rattle.track.specs.declared.state.State.{State}
use Rattle.track.specs.declared.state.State.TheVariants.{Sound, Bad, Moved, Taken}
use Rattle.track.specs.Image.{Fits, track_bytes, slot_data}
use Rattle.track.specs.Find.{Slot}
use Rattle.track.specs.Find.{sector_found}
use Rattle.formatter.specs.Format.{formatted}
use Rattle.formatter.proofs.Laws.{length_formatted, sound_in, format_forms, format_fills, found_sound, found_moved, found_bad, found_taken}
use Rattle.track.proofs.Laws.{track_same}
use Rattle.sectors.specs.Transfer.{found}
use Rattle.contents.specs.Content.{Bytes, Missing, content_in, content_of}
use Rattle.contents.proofs.Terms.{ForTracks, track_made, pair_made, drive_made}
use Rattle.contents.proofs.Places.{content_fault}
use Rattle.contents.proofs.Formats.{made_fits, made_other, label_apart}

-- ---- by the bytes of its track, and of the partner
module _ (p : Params) (w : Within p) (image : List ℕ) (g : ℕ) (a : Lba) (t : Track) (et : track_of p a ≡ t) where
  abbrev s : ℕ
  s = sector_of p a

  abbrev map : List ℕ
  map = layout_of p.sectors g

  some_sector : 0 < p.sectors
  some_sector = omega (arith, w.sectors_some)

  its_sector : s < p.sectors
  its_sector = sector_in_lem p w a

  is_found : found p a image ≡ sector_found p t s image
  unfolding found
  is_found = ap (λ (v : Track). sector_found p v s image) et

  in_slot : (u : Track) (k : ℕ) → found p a image ≡ Slot u k → (fill : List ℕ) → slot_data p k (track_bytes p u image) ≡ fill → content_of p a image ≡ Bytes fill
  unfolding content_of content_in
  in_slot u k e fill d = rw e (ap Bytes d)

  module _ (fill : List ℕ) (lf : length fill ≡ p.size) where
    sound_reads : track_bytes p t image ≡ formatted p t Sound map fill → content_of p a image ≡ Bytes fill
    sound_reads made =
        in_slot t (slot_of p.sectors g s)
        (is_found ∙ found_sound p t g s image some_sector its_sector (format_forms p t Sound g fill image some_sector lf made)) fill
        (format_fills p t Sound g fill image some_sector lf made (slot_of p.sectors g s) (slot_lt p.sectors g s its_sector))

    bad_reads : track_bytes p t image ≡ formatted p t Bad map fill → content_of p a image ≡ Missing 0x19
    bad_reads made =
        content_fault p a image 0x19
        (is_found ∙ found_bad p t g s image some_sector its_sector (format_forms p t Bad g fill image some_sector lf made))

    taken_reads : (u : Track) → track_bytes p t image ≡ formatted p t (Taken u) map fill → content_of p a image ≡ Missing 0x1C
    taken_reads u made =
        content_fault p a image 0x1C
        (is_found ∙ found_taken p t g s image some_sector its_sector u (format_forms p t (Taken u) g fill image some_sector lf made))

    moved_reads : (u : Track) (plain : List ℕ) → length plain ≡ p.size → u.0 < track_count p → track_bytes p t image ≡ formatted p t (Moved u) map plain
        → track_bytes p u image ≡ formatted p u (Taken t) map fill → content_of p a image ≡ Bytes fill
    moved_reads u plain lp hu made there =
        in_slot u (slot_of p.sectors g s)
        (is_found
        ∙ found_moved p t g s image some_sector its_sector u g hu (format_forms p t (Moved u) g plain image some_sector lp made)
        (format_forms p u (Taken t) g fill image some_sector lf there))
        fill
        (format_fills p u (Taken t) g fill image some_sector lf there (slot_of p.sectors g s) (slot_lt p.sectors g s its_sector))

-- ---- the bytes of tracks made with a fill of D bytes
module _ (p : Params) (map : List ℕ) (lm : length map ≡ p.sectors) where
  whole : (fill : List ℕ) → length fill ≡ p.size → ForTracks p map fill
  whole fill lf = record { slots = lm; most = omega arith }

  made_same : (fill : List ℕ) → length fill ≡ p.size → (image : List ℕ) → Fits p image → (t : Track) → t.0 < track_count p → (state : State)
      → track_bytes p t (track_made p t state map fill image) ≡ formatted p t state map fill
  made_same fill lf image f t ht state =
      track_same p image f.long t (formatted p t state map fill) ht (length_formatted p t state map fill lm lf)

  drive_in : (fill : List ℕ) → length fill ≡ p.size → (image : List ℕ) → Fits p image → (label : List ℕ) → length label ≡ 16 → (s u : Track)
      → u.0 < track_count p → s.0 ≤ u.0 → track_bytes p u (drive_made p s map fill label image) ≡ formatted p u Sound map fill
  drive_in fill lf image f label sixteen s u hu l =
      label_apart p map fill label image f (whole fill lf) sixteen s (omega arith) u
      ∙ sound_in p map fill lm lf s image f.long (track_count p - s.0) u (omega arith) l (omega arith)

  module _ (plain fill image : List ℕ) (lp : length plain ≡ p.size) (lf : length fill ≡ p.size) (f : Fits p image)
      (A B : Track) (ha : A.0 < track_count p) (hb : B.0 < track_count p) (ne : B.0 ≡ A.0 → ⊥) where
    abbrev half : List ℕ
    half = track_made p A (Moved B) map plain image

    half_fits : Fits p half
    half_fits = made_fits p map plain image f (whole plain lp) A ha (Moved B)

    moved_same : track_bytes p A (pair_made p A B map plain fill image) ≡ formatted p A (Moved B) map plain
    moved_same =
        made_other p map fill half half_fits (whole fill lf) B hb (Taken A) A (λ e. ne (sym e)) ∙ made_same plain lp image f A ha (Moved B)

    taken_there : track_bytes p B (pair_made p A B map plain fill image) ≡ formatted p B (Taken A) map fill
    taken_there = made_same fill lf half half_fits B hb (Taken A)

-- ---- after each format, with the layout of interleave g
module _ (p : Params) (image : List ℕ) (f : Fits p image) (g : ℕ) (fill : List ℕ) (lf : length fill ≡ p.size) where
  abbrev layout : List ℕ
  layout = layout_of p.sectors g

  slots : length layout ≡ p.sectors
  slots = layout_length p.sectors g (omega (arith, f.within.sectors_some))

  module _ (a : Lba) (ha : OnDrive p a) where
    abbrev home : Track
    home = track_of p a

    in_drive : home.0 < track_count p
    in_drive = track_in p f.within a ha

    -- Format Track: the fill; Format Bad Track: 19h
    pub format_track_reads : content_of p a (track_made p home Sound layout fill image) ≡ Bytes fill
    format_track_reads =
        sound_reads p f.within _ g a home refl fill lf (made_same p layout slots fill lf image f home in_drive Sound)

    pub format_bad_track_reads : content_of p a (track_made p home Bad layout fill image) ≡ Missing 0x19
    format_bad_track_reads =
        bad_reads p f.within _ g a home refl fill lf (made_same p layout slots fill lf image f home in_drive Bad)

    -- Format Drive: the fill, from track s on
    pub format_drive_reads : (s : Track) (label : List ℕ) → length label ≡ 16 → s.0 ≤ home.0
        → content_of p a (drive_made p s layout fill label image) ≡ Bytes fill
    format_drive_reads s label sixteen l =
        sound_reads p f.within _ g a home refl fill lf
        (drive_in p layout slots fill lf image f label sixteen s home in_drive l)

    -- Assign Alternate: the fill at A's addresses, 1Ch at B's
    module _ (plain : List ℕ) (lp : length plain ≡ p.size) (other : Track) (ho : other.0 < track_count p) where
      pub assign_reads : (other.0 ≡ home.0 → ⊥) → content_of p a (pair_made p home other layout plain fill image) ≡ Bytes fill
      assign_reads ne =
          moved_reads p f.within _ g a home refl fill lf other plain lp ho
          (moved_same p layout slots plain fill image lp lf f home other in_drive ho ne)
          (taken_there p layout slots plain fill image lp lf f home other in_drive ho ne)

      pub assign_takes : (home.0 ≡ other.0 → ⊥) → content_of p a (pair_made p other home layout plain fill image) ≡ Missing 0x1C
      assign_takes ne =
          taken_reads p f.within _ g a home refl fill lf other
          (taken_there p layout slots plain fill image lp lf f other home ho in_drive ne)
