-- Bytes outside a drive's tracks: the label before them, and those past the image length that the parameters give. What is put
-- into an image between them leaves them.
use Prim.Native.Nat.{ℕ, zero, suc, ◌+◌, ◌-◌, ◌≤◌, ◌<◌}
use mathlib.Core.Path.{◌≡◌, refl, ◌∙◌}
use mathlib.Core.Bool.{Bool, true, false}
use mathlib.Core.Logic.{inl, inr}
use mathlib.Core.List.{List, ◌++◌}
use native.Mathlib.Omega.{arith}
use native.Mathlib.Nat.{min-le_left}
use lib.ListN.{length, take, length-take, length-replicate}
use Rattle.base.specs.Pick.{pick}
use Rattle.base.specs.Part.{part, splice}
use Rattle.base.proofs.Decide.{pick-both}
use Rattle.base.proofs.Parts.{length_splice, part_same, part_before, part_after, cell_in}
use Rattle.geometry.specs.declared.params.Track.{Track}
use Rattle.geometry.specs.declared.params.Params.{Params}
use Rattle.geometry.specs.declared.medium.Medium.{Medium}
use Rattle.geometry.specs.Config.{Setting}
use Rattle.std.specs.Prelude.{Some, None}
use Rattle.geometry.specs.Params.{Within, track_count, track_size, image_length, track_start, track_of, next_track}
use Rattle.geometry.specs.Medium.{medium_of}
use Rattle.geometry.specs.Config.{label_rest}
use Rattle.geometry.proofs.Labels.{sixteen}
use Rattle.interleave.specs.Layout.{layout_of}
use Rattle.interleave.proofs.Layouts.{layout_length}
use Rattle.track.specs.declared.state.State.{State}
use Rattle.track.specs.declared.state.State.TheVariants.{Sound, Moved, Taken}
use Rattle.track.specs.Image.{Fits, with_track}
use Rattle.formatter.specs.Format.{formatted, sound_from}
use Rattle.formatter.proofs.Laws.{formatted_most}
use Rattle.keeping.specs.Keep.{kept, Keepable}
use Rattle.keeping.proofs.Laws.{same_length, same_beyond, layout_maps, kept_late}
use Rattle.model.specs.declared.block.Block.{Block}
use Rattle.model.specs.Block.{keeps}
use Rattle.model.specs.Commands.{plain_byte, plain_fill, fill_of, made_at, drive_formatted, assigned, alternated}

-- The length, the first `low` bytes, and the bytes past the drive are as before; without parameters all bytes are.
pub record Outside (low : ℕ) (s : Setting) (before after : List ℕ) : Type 0 where
  pub len : length after ≡ length before
  pub below : (at size : ℕ) → at + size ≤ low → part at size after ≡ part at size before
  pub past : (p : Params) → s ≡ Some p → (at size : ℕ) → image_length p ≤ at → part at size after ≡ part at size before
  pub all : s ≡ None → after ≡ before

module _ (low : ℕ) (s : Setting) where
  pub outside_self : (image : List ℕ) → Outside low s image image
  outside_self image = record { len = refl; below = λ at size h. refl; past = λ p is at size h. refl; all = λ is. refl }

  pub outside_then : (a b c : List ℕ) → Outside low s a b → Outside low s b c → Outside low s a c
  outside_then a b c x y = record {
    len = y.len ∙ x.len;
    below = λ at size h. y.below at size h ∙ x.below at size h;
    past = λ p is at size h. y.past p is at size h ∙ x.past p is at size h;
    all = λ is. y.all is ∙ x.all is;
  }

  pub outside_less : (more : ℕ) → low ≤ more → (before after : List ℕ) → Outside more s before after → Outside low s before after
  outside_less more h before after x = record { len = x.len; below = λ at size l. x.below at size (omega arith); past = x.past; all = x.all }

-- ---- Bytes put between them
module _ (low : ℕ) (p : Params) (image : List ℕ) (fits : image_length p ≤ length image) where
  splice_outside : (at : ℕ) (bytes : List ℕ) → low ≤ at → at + length bytes ≤ image_length p → Outside low (Some p) image (splice at bytes image)
  splice_outside at bytes l h = record {
    len = length_splice at bytes image (omega arith);
    below = λ b size k. part_before b size at bytes image (omega arith) (omega arith);
    past = λ q is b size k.
        let same : p ≡ q = cc in
        let most : at + length bytes ≤ image_length q = rw same at h in part_after b size at bytes image (omega arith) (omega arith);
    all = λ is. absurd (let z : ◌≡◌ {A = ℕ} 0 1 = cc in omega arith);
  }

  label_outside : low ≡ 0 → (config : List ℕ) → length config ≡ 10 → Outside low (Some p) image (splice 0 (config ++ label_rest) image)
  label_outside none config l = splice_outside 0 (config ++ label_rest) (omega arith) (omega (arith, sixteen config l))

  pub track_outside : low ≤ 16 → (t : Track) (bytes : List ℕ) → t.0 < track_count p → length bytes ≤ track_size p
      → Outside low (Some p) image (with_track p t bytes image)
  unfolding with_track
  track_outside front t bytes h l =
      splice_outside (track_start p t) bytes (omega arith) (omega (arith, cell_in (track_size p) t.0 (track_count p) h))

-- a formatted track is no longer than a track, whatever the fill is cut to
module _ (low : ℕ) (front : low ≤ 16) (p : Params) (map fill : List ℕ) (lm : length map ≡ p.sectors) (lf : length fill ≤ p.size) where
  formatted_outside : (image : List ℕ) → image_length p ≤ length image → (t : Track) (state : State) → t.0 < track_count p
      → Outside low (Some p) image (with_track p t (formatted p t state map fill) image)
  formatted_outside image fits t state h = track_outside low p image fits front t (formatted p t state map fill) h (formatted_most p map fill lm lf t state)

  sound_outside : (n : ℕ) (t : Track) (image : List ℕ) → image_length p ≤ length image → t.0 + n ≤ track_count p
      → Outside low (Some p) image (sound_from p map fill n t image)
  unfolding sound_from
  sound_outside zero t image fits h = outside_self low (Some p) image
  sound_outside (suc n) t image fits h =
      let one = formatted_outside image fits t Sound (omega arith) in
      outside_then low (Some p) image _ _ one (sound_outside n (next_track t) _ (rw one.len fits) (omega arith))

-- ---- What fills a track is no longer than D
take_most : (n : ℕ) (l : List ℕ) → length (take n l) ≤ n
take_most n l = rw (length-take n l) (min-le_left n (length l))

pub plain_length : (medium : Medium) (p : Params) → length (plain_fill medium p) ≡ p.size
unfolding plain_fill
plain_length medium p = length-replicate p.size (plain_byte medium)

pub plain_most : (medium : Medium) (p : Params) → length (plain_fill medium p) ≤ p.size
plain_most medium p = rw (plain_length medium p) (omega arith)

pub fill_most : (b : Block) (p : Params) (buffer : List ℕ) → length (fill_of b p buffer) ≤ p.size
unfolding fill_of part
fill_most b p buffer = pick-both (λ (l : List ℕ). length l ≤ p.size) _ _ _ (take_most p.size buffer) (plain_most (medium_of b.drive) p)

-- ---- Formats
module _ (low : ℕ) (front : low ≤ 16) (b : Block) (p : Params) (w : Within p) where
  map_length : length (layout_of p.sectors b.extra) ≡ p.sectors
  map_length = layout_length p.sectors b.extra (omega (arith, w.sectors_some))

  -- one track, and two
  pub made_outside : (image : List ℕ) → image_length p ≤ length image → (t : Track) (state : State) (fill : List ℕ) → t.0 < track_count p
      → length fill ≤ p.size → Outside low (Some p) image (made_at b p t state fill image)
  unfolding made_at
  made_outside image fits t state fill h l = formatted_outside low front p (layout_of p.sectors b.extra) fill map_length l image fits t state h

  module _ (image : List ℕ) (fits : image_length p ≤ length image) where
    assigned_outside : (A B : Track) (fill : List ℕ) → A.0 < track_count p → B.0 < track_count p → length fill ≤ p.size
        → Outside low (Some p) image (assigned b p A B fill image)
    unfolding assigned
    assigned_outside A B fill ha hb l =
        let one = made_outside image fits A (Moved B) (plain_fill (medium_of b.drive) p) ha (plain_most (medium_of b.drive) p) in
        outside_then low (Some p) image _ _ one (made_outside _ (rw one.len fits) B (Taken A) fill hb l)

    -- a track moved with its contents
    kept_outside : (A B : Track) → Keepable p A B image → Outside low (Some p) image (kept p A B (layout_of p.sectors b.extra) image)
    kept_outside A B may =
        let map = layout_of p.sectors b.extra in
        let fit : Fits p image = record { within = w; long = fits } in
        let maps = layout_maps p.sectors b.extra (omega (arith, w.sectors_some)) in
        let late = kept_late p A B map image fit maps may in
        record {
          len = same_length p A B map image fit maps may _ late;
          below = λ at size h. same_beyond p A B map image fit maps may _ late at size (inl (omega arith));
          past = λ q is at size h.
              let same : p ≡ q = cc in
              let past : image_length p ≤ at = rw (← same) at h in same_beyond p A B map image fit maps may _ late at size (inr past);
          all = λ is. absurd (let z : ◌≡◌ {A = ℕ} 0 1 = cc in omega arith);
        }

    pub alternated_outside : (A B : Track) (buffer : List ℕ) → A.0 < track_count p → B.0 < track_count p → (keeps b ≡ true → Keepable p A B image)
        → Outside low (Some p) image (alternated b p A B buffer image)
    unfolding alternated pick
    alternated_outside A B buffer ha hb may = by (keeps b) refl
      where
        by : (k : Bool) → keeps b ≡ k
            → Outside low (Some p) image (pick k (kept p A B (layout_of p.sectors b.extra) image) (assigned b p A B (fill_of b p buffer) image))
        by true e = kept_outside A B (may e)
        by false e = assigned_outside A B (fill_of b p buffer) ha hb (fill_most b p buffer)

    -- the tracks from the block's to the last, then the label
    module _ (config fill : List ℕ) (ten : length config ≡ 10) (l : length fill ≤ p.size) (h : (track_of p b.address).0 < track_count p) where
      abbrev first : Track
      first = track_of p b.address

      swept : Outside low (Some p) image (sound_from p (layout_of p.sectors b.extra) fill (track_count p - first.0) first image)
      swept = sound_outside low front p (layout_of p.sectors b.extra) fill map_length l (track_count p - first.0) first image fits (omega arith)

      pub drive_outside : low ≡ 0 → Outside low (Some p) image (drive_formatted b p config fill image)
      unfolding drive_formatted
      drive_outside none = outside_then low (Some p) image _ _ swept (label_outside low p _ (rw swept.len fits) none config ten)

-- what Format Drive writes to the label, and the length
module _ (b : Block) (p : Params) (w : Within p) (image : List ℕ) (fits : image_length p ≤ length image) (config fill : List ℕ)
    (ten : length config ≡ 10) (l : length fill ≤ p.size) (h : (track_of p b.address).0 < track_count p) where
  pub drive_length : length (drive_formatted b p config fill image) ≡ length image
  drive_length = (drive_outside 0 (omega arith) b p w image fits config fill ten l h refl).len

  pub drive_label : part 0 16 (drive_formatted b p config fill image) ≡ config ++ label_rest
  unfolding drive_formatted
  drive_label =
      let before = swept 0 (omega arith) b p w image fits config fill ten l h in
      part_same 0 16 (config ++ label_rest) _ (sixteen config ten) (omega (arith, before.len))
