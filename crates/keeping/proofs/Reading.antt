-- What is read of a sector, by where the search for its track's sectors goes on.
use mathlib.Core.Path.{◌≡◌, refl, sym, ap, ◌∙◌}
use mathlib.Core.Option.{Option, none, some}
use mathlib.Core.List.{List}
use Prim.Native.Nat.{ℕ, ◌≤◌, ◌<◌}
use lib.ListN.{length}
use Rattle.geometry.specs.declared.params.Params.{Params}
use Rattle.geometry.specs.declared.params.Track.{Track}
use Rattle.geometry.specs.Params.{track_count, image_length}
use Rattle.track.specs.Find.{On, Off}
use Rattle.track.specs.Find.{Slot}
use Rattle.track.specs.Image.{track_bytes, slot_data}
use Rattle.track.specs.Find.{where_of, slot_used, sector_in, sector_found}
use Rattle.track.proofs.Laws.{length_track, length_data, used_holds, sector_on, sector_off}
use Rattle.contents.proofs.Laws.{missing_bytes}
use Rattle.contents.specs.Content.{Content, Bytes, Missing, read_bytes, content_in, content_at}

-- data that are read are all there is
pub bytes_back : (c : Content) (bytes : List ℕ) → c ≡ Bytes bytes → Bytes (read_bytes c) ≡ c
unfolding read_bytes
bytes_back (Bytes b) bytes e = refl
bytes_back (Missing code) bytes e = absurd (missing_bytes code bytes e)

-- an error of slot 0
pub content_off : (p : Params) (t : Track) (s : ℕ) (image : List ℕ) (code : ℕ) → where_of p t image ≡ Off code → content_at p t s image ≡ Missing code
unfolding content_at content_in
content_off p t s image code e = rw (sector_off p t s image code e)

-- ---- the search goes on in track u
module _ (p : Params) (t u : Track) (s : ℕ) (image : List ℕ) (on : where_of p t image ≡ On u) where
  pub content_none : slot_used p s (track_bytes p u image) ≡ none → content_at p t s image ≡ Missing 0x14
  unfolding content_at content_in sector_in
  content_none e = rw (sector_on p t s image u on, e)

  pub content_some : (k : ℕ) → slot_used p s (track_bytes p u image) ≡ some k → content_at p t s image ≡ Bytes (slot_data p k (track_bytes p u image))
  unfolding content_at content_in sector_in
  content_some k e = rw (sector_on p t s image u on, e)

  -- data that are found are D bytes
  pub content_length : image_length p ≤ length image → u.0 < track_count p → (bytes : List ℕ) → content_at p t s image ≡ Bytes bytes → length (read_bytes (content_at p t s image)) ≡ p.size
  unfolding read_bytes
  content_length fits h bytes e = by (slot_used p s (track_bytes p u image)) refl
    where
      by : (o : Option ℕ) → slot_used p s (track_bytes p u image) ≡ o → length (read_bytes (content_at p t s image)) ≡ p.size
      by none z = absurd (missing_bytes 0x14 bytes (sym (content_none z) ∙ e))
      by (some k) z = rw (content_some k z) (length_data p (track_bytes p u image) (length_track p image fits u h) k (used_holds p s (track_bytes p u image) k z).0)

-- ---- by the sector found
pub content_slot : (p : Params) (t u : Track) (s k : ℕ) (image : List ℕ) → sector_found p t s image ≡ Slot u k → content_at p t s image ≡ Bytes (slot_data p k (track_bytes p u image))
unfolding content_at content_in
content_slot p t u s k image e = rw e

-- the same track, searched in itself, in two images
pub content_home : (p : Params) (t : Track) (s : ℕ) (image now : List ℕ) → where_of p t image ≡ On t → where_of p t now ≡ On t → track_bytes p t now ≡ track_bytes p t image
    → content_at p t s now ≡ content_at p t s image
unfolding content_at content_in sector_in
content_home p t s image now on on' same = rw (sector_on p t s image t on, sector_on p t s now t on', same) (by (slot_used p s (track_bytes p t image)))
  where
    by : (o : Option ℕ) → content_in p now (sector_in t o) ≡ content_in p image (sector_in t o)
    by none = refl
    by (some k) = ap (λ (bytes : List ℕ). Bytes (slot_data p k bytes)) same
