-- Document 01, Read and Write: sectors in address order; the first failing sector ends it, earlier ones are done and counted.
use Rattle.std.specs.Prelude.{ℕ, zero, suc, List, [], ◌++◌, take, drop}
use Rattle.geometry.specs.declared.params.Lba.{Lba}
use Rattle.geometry.specs.declared.params.Track.{Track}
use Rattle.geometry.specs.declared.params.Params.{Params}
use Rattle.geometry.specs.Params.{track_of, sector_of, next}
use Rattle.track.specs.Image.{track_bytes, with_track, slot_data, with_data}
use Rattle.track.specs.Find.{Sector}
use Rattle.track.specs.Find.{Slot, Fault}
use Rattle.track.specs.Find.{sector_found}

-- What is done so far: sectors, bytes handed over, the last sector, the image; and the code that ended it, or 0.
pub record Transfer : Type 0 where
  pub done : ℕ
  pub handed : List ℕ
  pub last : List ℕ
  pub image : List ℕ
  pub code : ℕ

unfoldable pub begun : (image : List ℕ) → Transfer
begun image = record { done = 0; handed = []; last = []; image = image; code = 0 }

unfoldable pub ended : (code : ℕ) → Transfer → Transfer
ended code x = record { done = x.done; handed = x.handed; last = x.last; image = x.image; code = code }

-- The sector in slot k of track t is read, and handed over.
unfoldable pub read_slot : Params → Transfer → Track → (k : ℕ) → Transfer
read_slot p x t k = record {
  done = suc x.done;
  handed = x.handed ++ slot_data p k (track_bytes p t x.image);
  last = slot_data p k (track_bytes p t x.image);
  image = x.image;
  code = 0;
}

-- The sector in slot k of track t is written.
unfoldable pub write_slot : Params → (sector : List ℕ) → Transfer → Track → (k : ℕ) → Transfer
write_slot p sector x t k = record {
  done = suc x.done;
  handed = x.handed;
  last = sector;
  image = with_track p t (with_data p k sector (track_bytes p t x.image)) x.image;
  code = 0;
}

-- On with a sector that is found; the error of one that is not ends the transfer.
unfoldable pub onward : Transfer → (Track → ℕ → Transfer) → Sector → Transfer
onward x next (Fault code) = ended code x
onward x next (Slot t k) = next t k

-- Finding the sector at address a.
unfoldable pub found : Params → Lba → (image : List ℕ) → Sector
found p a image = sector_found p (track_of p a) (sector_of p a) image

-- n more sectors, from address a on.
unfoldable pub reading : Params → (n : ℕ) → Lba → Transfer → Transfer
reading p zero a x = x
reading p (suc n) a x =
    onward x (λ t k. reading p n (next a) (read_slot p x t k)) (found p a x.image)

unfoldable pub writing : Params → (n : ℕ) → Lba → (given : List ℕ) → Transfer → Transfer
writing p zero a given x = x
writing p (suc n) a given x =
    onward x (λ t k. writing p n (next a) (drop p.size given) (write_slot p (take p.size given) x t k))
    (found p a x.image)
