-- One sector read and written, by what is found.
use mathlib.Core.Path.{◌≡◌, refl, sym, ap, ◌∙◌}
use mathlib.Core.List.{List}
use Prim.Native.Nat.{ℕ, ◌+◌, ◌-◌, ◌*◌, ◌≤◌, ◌<◌}
use native.Mathlib.Omega.{arith}
use native.Mathlib.Nat.{one-mul}
use lib.ListN.{length, take, drop}
use lib.Seq.{take_all}
use borrow.Rule.Slice.PartMut.{put_mid}
use Rattle.std.specs.Prelude.{Some, None}
use Rattle.codes.specs.declared.Code.{Code}
use Rattle.codes.specs.Numbers.{number_of}
use Rattle.base.specs.Part.{splice}
use Rattle.base.proofs.Parts.{splice_all, splice_lent}
use Rattle.geometry.specs.declared.params.Params.{Params}
use Rattle.geometry.specs.declared.params.Lba.{Lba}
use Rattle.geometry.specs.declared.params.Track.{Track}
use Rattle.geometry.specs.Params.{track_count, track_size, track_start, track_of, sector_of, OnDrive}
use Rattle.track.specs.Find.{Sector}
use Rattle.track.specs.Find.{Slot, Fault}
use Rattle.track.specs.Image.{Fits, track_bytes, with_track, slot_data, with_data}
use Rattle.track.specs.Find.{sector_found}
use Rattle.track.proofs.Laws.{track_lent, length_track, length_data, length_with_data}
use Rattle.sectors.specs.Transfer.{begun, ended, read_slot, write_slot, onward, found, reading, writing}
use Rattle.sectors.specs.Promises.{HasRead, HasWritten}
use Rattle.sectors.proofs.Founds.{found_slot}

-- room for n sectors is room for one, where n is 1
pub one_room : (n size len : ℕ) → n ≡ 1 → n * size ≤ len → size ≤ len
one_room n size len en h = let e : size ≡ n * size = rw en (sym (one-mul size)) in omega arith

-- sector s of track t has address a, and r was found
module _ (p : Params) (a : Lba) (image : List ℕ) (t : Track) (s : ℕ) (r : Sector) (et : t ≡ track_of p a) (es : s ≡ sector_of p a)
    (er : r ≡ sector_found p t s image) where
  by_address : found p a image ≡ r
  unfolding found
  by_address = sym (er ∙ rw (et, es) refl)

  -- nothing is done where it is not found
  pub read_missing : (code : Code) (place : List ℕ) → r ≡ Fault (number_of code) → HasRead p 1 a image (record { sectors = 0; fault = Some code }) place place
  unfolding reading onward ended begun splice
  read_missing code place e = rw (by_address ∙ e) (record { sectors = refl; code = refl; area = refl })

  pub write_missing : (code : Code) (sector : List ℕ) → r ≡ Fault (number_of code) → HasWritten p 1 a sector (record { sectors = 0; fault = Some code }) image image
  unfolding writing onward ended begun
  write_missing code sector e = rw (by_address ∙ e) (record { sectors = refl; code = refl; image = refl })

  -- it is found in slot k of track u, which is lent
  module _ (f : Fits p image) (ha : OnDrive p a) (u : Track) (k : ℕ) (e : r ≡ Slot u k) where
    abbrev bytes : List ℕ
    bytes = track_bytes p u image

    pub one_there : (u.0 < track_count p) × (k < p.sectors)
    one_there = found_slot p a image u k f.within ha (by_address ∙ e)

    long : length bytes ≡ track_size p
    long = length_track p image f.long u one_there.0

    -- its data are copied to their place
    pub read_found : (copied place after : List ℕ) → copied ≡ slot_data p k bytes → length place ≡ p.size → after ≡ copied
        → HasRead p 1 a image (record { sectors = 1; fault = None }) place after
    unfolding reading onward begun read_slot
    read_found copied place after ec lp ea =
        let ld : length (slot_data p k bytes) ≡ p.size = length_data p bytes long k one_there.1 in
        rw (by_address ∙ e) (record { sectors = refl; code = refl; area = ea ∙ ec ∙ sym (splice_all (slot_data p k bytes) place (ld ∙ sym lp)) })

    module _ (start end : ℕ) (e₀ : start ≡ track_start p u) (e₁ : end ≡ track_start p u + track_size p) where
      lent : take (end - start) (drop start image) ≡ bytes
      lent = track_lent p u image start end e₀ e₁

      pub one_lent : length (take (end - start) (drop start image)) ≡ track_size p
      one_lent = ap length lent ∙ long

      -- the bytes given are written there
      pub write_found : (sector after : List ℕ) → length sector ≡ p.size → after ≡ with_data p k sector (take (end - start) (drop start image))
          → HasWritten p 1 a sector (record { sectors = 1; fault = None }) image (put_mid start (end - start) image after)
      unfolding writing onward begun write_slot with_track
      write_found sector after ls ea =
          let is : after ≡ with_data p k sector bytes = ea ∙ ap (with_data p k sector) lent in
          let la : length after ≡ track_size p = ap length is ∙ length_with_data p bytes long k sector one_there.1 ls in
          let all : take p.size sector ≡ sector = take_all p.size sector (omega arith) in
          rw (by_address ∙ e, all) (record { sectors = refl; code = refl; image = splice_lent start end image after (omega arith) ∙ rw (e₀, is) refl })
