-- Where the sector at an address lies, that no two addresses share a slot, and what codes say that a sector is not found.
use mathlib.Core.Path.{◌≡◌, refl, sym, ap, ◌∙◌}
use mathlib.Core.Bool.{true, false}
use mathlib.Core.Option.{some}
use mathlib.Core.List.{List}
use Prim.Native.Nat.{ℕ, ◌+◌, ◌*◌, ◌<◌}
use Rattle.geometry.specs.declared.params.Params.{Params}
use Rattle.geometry.specs.declared.params.Track.{Track}
use Rattle.geometry.specs.declared.params.Lba.{Lba}
use Rattle.geometry.specs.Params.{Within, track_count, track_of, sector_of, OnDrive}
use Rattle.geometry.proofs.Addresses.{track_in, same_lba}
use Rattle.track.specs.Find.{On}
use Rattle.track.specs.Find.{Slot, Fault}
use Rattle.track.specs.Image.{track_bytes}
use Rattle.track.specs.Find.{where_of, holds, slot_used}
use Rattle.track.proofs.Laws.{located_there, located_in, located_first, located_apart, Code, located_code}
use Rattle.sectors.specs.Transfer.{found}
use Rattle.sectors.proofs.Along.{address_of}

-- the track of an address of the drive
pub track_below : (p : Params) (a : Lba) (t : Track) → Within p → OnDrive p a → t ≡ track_of p a → t.0 < track_count p
track_below p a t w h e = rw e (track_in p w a h)

-- ---- the sector at an address is found in slot k of track u
module _ (p : Params) (a : Lba) (image : List ℕ) (u : Track) (k : ℕ) where
  -- the search goes on in track u, and slot k is the one used there
  pub found_there : found p a image ≡ Slot u k → (where_of p (track_of p a) image ≡ On u) × (slot_used p (sector_of p a) (track_bytes p u image) ≡ some k)
  unfolding found
  found_there e = located_there p (track_of p a) (sector_of p a) image u k e

  -- a slot of a track of the drive
  pub found_slot : Within p → OnDrive p a → found p a image ≡ Slot u k → (u.0 < track_count p) × (k < p.sectors)
  unfolding found
  found_slot w h e = located_in p (track_of p a) (sector_of p a) image u k e (track_in p w a h)

  -- of the slots that hold one sector the first is found
  pub found_first : found p a image ≡ Slot u k → (j s : ℕ) → j < k → holds p s (track_bytes p u image) k ≡ true → holds p s (track_bytes p u image) j ≡ false
  unfolding found
  found_first e = located_first p (track_of p a) (sector_of p a) image u k e

-- it is not found: a code that is not 0, and below 80h
pub found_fault : (p : Params) (a : Lba) (image : List ℕ) (c : ℕ) → found p a image ≡ Fault c → Code c
unfolding found
found_fault p a image c e = located_code p (track_of p a) (sector_of p a) image c e

-- two addresses never share a slot
pub slots_apart : (p : Params) (a b : Lba) (image : List ℕ) (u : Track) (k : ℕ) → found p a image ≡ Slot u k → found p b image ≡ Slot u k → a ≡ b
unfolding found
slots_apart p a b image u k ea eb =
    let ta = track_of p a in
    let tb = track_of p b in
    let sa = sector_of p a in
    let sb = sector_of p b in
    let same = located_apart p ta tb sa sb image u k ea eb in
    same_lba a b
    (address_of p ta sa a refl refl
    ∙ ap (λ (t : Track). t.0 * p.sectors + sa) same.0 ∙ ap (λ (s : ℕ). tb.0 * p.sectors + s) same.1
    ∙ sym (address_of p tb sb b refl refl))
