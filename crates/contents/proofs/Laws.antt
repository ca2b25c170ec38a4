-- The laws meant for the crates above, each proved in its own module. `Fits p image` is all that they ask of an image, so damaged ones
-- are included.
use mathlib.Core.Path.{◌≡◌}
use mathlib.Core.Bool.{false}
use mathlib.Core.Logic.{◌⊎◌}
use mathlib.Core.List.{List}
use Prim.Native.Nat.{ℕ, ◌+◌, ◌*◌, ◌≤◌, ◌<◌}
use lib.ListN.{length}
use Rattle.base.specs.Part.{part}
use Rattle.geometry.specs.declared.params.Params.{Params}
use Rattle.geometry.specs.declared.params.Lba.{Lba}
use Rattle.geometry.specs.declared.params.Track.{Track}
use Rattle.geometry.specs.Params.{track_count, track_of, OnDrive, further}
use Rattle.track.specs.declared.state.State.TheVariants.{Sound, Bad}
use Rattle.track.specs.Image.{Fits}
use Rattle.track.specs.Find.{Slot}
use Rattle.track.specs.Pair.{pair_split}
use Rattle.sectors.specs.Transfer.{Transfer, begun, write_slot, found, reading, writing}
use Rattle.contents.specs.Content.{Bytes, Missing, content_of, put}
-- the laws' words
pub use Rattle.contents.proofs.Terms.{data_start, Stands, stands, Given, ForTracks, NotTaken, FreeFor, track_made, pair_made, drive_made}
unfoldable pub use Rattle.contents.proofs.Terms.{bytes_at, put_all}
-- what is at an address: a sector of its track; by what is found there data or a code, and the two told apart
pub use Rattle.contents.proofs.Puts.{by_found, missing_bytes}
pub use Rattle.contents.proofs.Places.{content_at_lem, content_fault}
-- Reads of images with the same contents say the same of all but their images
pub use Rattle.contents.proofs.Alikes.{Alike, begun_alike, reading_alike}
-- what slot 0 says goes by the track's bytes
pub use Rattle.contents.proofs.Elsewhere.{first_same}
-- two tracks change, and none but the first has taken either: every address outside both reads as before
pub use Rattle.contents.proofs.Pair.{Free, free_state, free_same, free_written, pair_elsewhere}
use Rattle.sectors.proofs.Laws as Sectors
use Rattle.contents.proofs.Puts
use Rattle.contents.proofs.Readings
use Rattle.contents.proofs.Writings
use Rattle.contents.proofs.Formats

-- Two addresses never share a slot.
pub slots_apart : (p : Params) (a b : Lba) (image : List ℕ) (u : Track) (k : ℕ) → found p a image ≡ Slot u k → found p b image ≡ Slot u k → a ≡ b
slots_apart = Sectors.slots_apart

module _ (p : Params) (image : List ℕ) (f : Fits p image) where
  -- What is read at an address has D bytes.
  pub content_length : (a : Lba) → OnDrive p a → (sector : List ℕ) → content_of p a image ≡ Bytes sector → length sector ≡ p.size
  content_length = Puts.content_length p image f

  -- ---- One sector of D bytes put at an address of the drive
  module _ (a : Lba) (ha : OnDrive p a) (sector : List ℕ) (ls : length sector ≡ p.size) where
    pub put_length : length (put p a sector image) ≡ length image
    put_length = Puts.put_length p image f a ha sector ls

    pub put_fits : Fits p (put p a sector image)
    put_fits = Puts.put_fits p image f a ha sector ls

    -- every address is found where it was
    pub put_found : (b : Lba) → OnDrive p b → found p b (put p a sector image) ≡ found p b image
    put_found = Puts.put_found p image f a ha sector ls

    -- every other address reads as before
    pub put_other : (b : Lba) → OnDrive p b → (a ≡ b → ⊥) → content_of p b (put p a sector image) ≡ content_of p b image
    put_other = Puts.put_other p image f a ha sector ls

    -- the sector put is read, and no byte outside the slot's data changes, where the address is found
    module _ (u : Track) (k : ℕ) (e : found p a image ≡ Slot u k) where
      pub put_same : content_of p a (put p a sector image) ≡ Bytes sector
      put_same = Puts.put_same p image f a ha sector ls u k e

      pub put_beside : (i size : ℕ) → (data_start p u k + p.size ≤ i) ⊎ (i + size ≤ data_start p u k) → part i size (put p a sector image) ≡ part i size image
      put_beside = Puts.put_beside p image f a ha u k e sector ls

    -- what was read before, put back, gives the image before
    pub put_back : (old : List ℕ) → content_of p a image ≡ Bytes old → put p a old (put p a sector image) ≡ image
    put_back = Puts.put_back p image f a ha sector ls

  -- two sectors put, in either order
  pub put_comm : (a b : Lba) → OnDrive p a → OnDrive p b → (x y : List ℕ) → length x ≡ p.size → length y ≡ p.size → (a ≡ b → ⊥)
      → put p a x (put p b y image) ≡ put p b y (put p a x image)
  put_comm = Puts.put_comm p image f

-- One sector written is one put.
pub wrote : (p : Params) (a : Lba) (sector : List ℕ) (x : Transfer) (u : Track) (k : ℕ) → found p a x.image ≡ Slot u k
    → (write_slot p sector x u k).image ≡ put p a sector x.image
wrote = Writings.wrote

-- ---- Transfers of n sectors from address a on
module _ (p : Params) (n : ℕ) (a : Lba) (image : List ℕ) where
  -- a Read hands over the contents of the sectors done
  pub reading_contents : (reading p n a (begun image)).handed ≡ bytes_at p (reading p n a (begun image)).done a image
  reading_contents = Readings.reading_contents p n a image

  -- each of which is found
  pub reading_finds : (i : ℕ) → i < (reading p n a (begun image)).done → Stands p (further a i) image
  reading_finds = Readings.reading_finds p n a image

  -- where all are done, none failed
  pub reading_whole : (reading p n a (begun image)).done ≡ n → (reading p n a (begun image)).code ≡ 0
  reading_whole = Readings.reading_whole p n a image

  -- else the first that is not done is missing, for the code that ended it
  pub reading_stop : (reading p n a (begun image)).done < n
      → content_of p (further a (reading p n a (begun image)).done) image ≡ Missing (reading p n a (begun image)).code
  reading_stop = Readings.reading_stop p n a image

  module _ (given : List ℕ) where
    abbrev done : ℕ
    done = (writing p n a given (begun image)).done

    abbrev written : List ℕ
    written = (writing p n a given (begun image)).image

    -- a Write is the puts of the sectors done
    pub writing_puts : written ≡ put_all p done a given image
    writing_puts = Writings.writing_puts p n a given image

    -- no more than were asked for
    pub writing_most : done ≤ n
    writing_most = Writings.writing_most p n a given image

    -- and where none failed, all are done
    pub writing_all : (writing p n a given (begun image)).code ≡ 0 → done ≡ n
    writing_all = Writings.writing_all p n a given image

    -- and the other way
    pub writing_whole : done ≡ n → (writing p n a given (begun image)).code ≡ 0
    writing_whole = Writings.writing_whole p n a given image

    module _ (f : Fits p image) (g : Given p n a given) where
      -- the image stays as long, and fits
      pub writing_length : length written ≡ length image
      writing_length = Writings.writing_length p n a given image f g

      pub writing_fits : Fits p written
      writing_fits = Writings.writing_fits p n a given image f g

      -- each of those done reads what was given for it
      pub writing_given : (i : ℕ) → i < done → content_of p (further a i) written ≡ Bytes (part (i * p.size) p.size given)
      writing_given = Writings.writing_given p n a given image f g

      -- every other address reads as before
      pub writing_elsewhere : (b : Lba) → OnDrive p b → (b.0 < a.0) ⊎ (a.0 + done ≤ b.0) → content_of p b written ≡ content_of p b image
      writing_elsewhere = Writings.writing_elsewhere p n a given image f g

-- ---- Formats: addresses outside the tracks formatted read as before
module _ (p : Params) (image : List ℕ) (f : Fits p image) (a : Lba) (ha : OnDrive p a) (map fill : List ℕ) (m : ForTracks p map fill) where
  module _ (t : Track) (ht : t.0 < track_count p) (free : NotTaken p t image) (out : (track_of p a).0 ≡ t.0 → ⊥) where
    pub format_track_elsewhere : content_of p a (track_made p t Sound map fill image) ≡ content_of p a image
    format_track_elsewhere = Formats.format_track_elsewhere p map fill image f m t ht free a ha out

    pub format_bad_track_elsewhere : content_of p a (track_made p t Bad map fill image) ≡ content_of p a image
    format_bad_track_elsewhere = Formats.format_bad_track_elsewhere p map fill image f m t ht free a ha out

  -- from track s on, where no pair is split; the label is no track
  pub format_drive_elsewhere : (s : Track) → s.0 ≤ track_count p → pair_split p s image ≡ false → (label : List ℕ) → length label ≡ 16
      → (track_of p a).0 < s.0 → content_of p a (drive_made p s map fill label image) ≡ content_of p a image
  format_drive_elsewhere s hs whole label sixteen l = Formats.format_drive_elsewhere p map fill label image f m sixteen s hs whole a ha l

  -- A moved to B, B taken by A; before it B may be taken by A too
  pub assign_elsewhere : (plain : List ℕ) → ForTracks p map plain → (A B : Track) → A.0 < track_count p → B.0 < track_count p → (B.0 ≡ A.0 → ⊥)
      → NotTaken p A image → FreeFor p A B image → ((track_of p a).0 ≡ A.0 → ⊥) → ((track_of p a).0 ≡ B.0 → ⊥)
      → content_of p a (pair_made p A B map plain fill image) ≡ content_of p a image
  assign_elsewhere plain mp A B h_a h_b ne free_a free_b out_a out_b =
      Formats.assign_elsewhere p map plain fill image f mp m A B h_a h_b ne free_a free_b a ha out_a out_b
