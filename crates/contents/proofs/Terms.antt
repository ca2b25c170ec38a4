-- The words of the laws: sectors read and put one after the other, and what the format commands leave of an image.
use Prim.Native.Nat.{ℕ, zero, suc, ◌+◌, ◌-◌, ◌*◌, ◌≤◌}
use mathlib.Core.Path.{◌≡◌}
use mathlib.Core.List.{List, [], ◌++◌}
use lib.ListN.{length, take, drop}
use Rattle.base.specs.Part.{splice}
use Rattle.geometry.specs.declared.params.Params.{Params}
use Rattle.geometry.specs.declared.params.Lba.{Lba}
use Rattle.geometry.specs.declared.params.Track.{Track}
use Rattle.geometry.specs.Params.{track_count, slot_size, track_start, address_count, next}
use Rattle.track.specs.declared.state.State.{State}
use Rattle.track.specs.declared.state.State.TheVariants.{Moved, Taken}
use Rattle.track.specs.Image.{with_track}
use Rattle.track.specs.Find.{Slot}
use Rattle.track.specs.Pair.{state_of}
use Rattle.formatter.specs.Format.{formatted, sound_from}
use Rattle.sectors.specs.Transfer.{found}
use Rattle.contents.specs.Content.{read_bytes, content_of, put}

-- where in the image the data of slot k of track t begin
abbrev pub data_start : Params → Track → (k : ℕ) → ℕ
data_start p t k = track_start p t + (k * slot_size p + 8)

-- finding gives a slot for the sector at a
pub data Stands (p : Params) (a : Lba) (image : List ℕ) : Type 0 where
  stands : (t : Track) (k : ℕ) → found p a image ≡ Slot t k → Stands p a image

-- ---- from one address on
-- the bytes read at n addresses, one behind the other
unfoldable pub bytes_at : Params → (n : ℕ) → Lba → (image : List ℕ) → List ℕ
bytes_at p zero a image = []
bytes_at p (suc n) a image = read_bytes (content_of p a image) ++ bytes_at p n (next a) image

-- n sectors put, of D bytes each, one behind the other in `given`
unfoldable pub put_all : Params → (n : ℕ) → Lba → (given image : List ℕ) → List ℕ
put_all p zero a given image = image
put_all p (suc n) a given image = put_all p n (next a) (drop p.size given) (put p a (take p.size given) image)

-- they are on the drive, and their data are given
pub record Given (p : Params) (n : ℕ) (a : Lba) (given : List ℕ) : Type 0 where
  pub on_drive_lem : a.0 + n ≤ address_count p
  pub enough : n * p.size ≤ length given

-- ---- formats
-- a map for whole tracks, and a fill of D bytes, or fewer where the buffer has fewer
pub record ForTracks (p : Params) (map fill : List ℕ) : Type 0 where
  pub slots : length map ≡ p.sectors
  pub most : length fill ≤ p.size

-- its slot 0 does not say that it is taken
abbrev pub NotTaken : Params → Track → (image : List ℕ) → Type 0
NotTaken p t image = (u : Track) → state_of p t image ≡ Taken u → ⊥

-- or by A alone: then it is free for A (request E7)
abbrev pub FreeFor : Params → (A t : Track) → (image : List ℕ) → Type 0
FreeFor p A t image = (u : Track) → state_of p t image ≡ Taken u → u.0 ≡ A.0

-- Format Track, Format Bad Track: track t becomes sound or bad.
abbrev pub track_made : Params → Track → State → (map fill image : List ℕ) → List ℕ
track_made p t state map fill image = with_track p t (formatted p t state map fill) image

-- Assign Alternate: A becomes moved to B, with a plain fill, then B taken by A.
abbrev pub pair_made : Params → (A B : Track) → (map plain fill image : List ℕ) → List ℕ
pair_made p A B map plain fill image = track_made p B (Taken A) map fill (track_made p A (Moved B) map plain image)

-- Format Drive: tracks from s to the last become sound, then the label is written.
abbrev pub drive_made : Params → (s : Track) → (map fill label image : List ℕ) → List ℕ
drive_made p s map fill label image = splice 0 label (sound_from p map fill (track_count p - s.0) s image)
