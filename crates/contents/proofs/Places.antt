-- Content and put by place: the data of the slot that is found are one stretch of the image, and two slots' data lie apart.
use mathlib.Core.Path.{◌≡◌, refl, ap, ◌∙◌}
use mathlib.Core.Logic.{◌⊎◌, inl, inr}
use mathlib.Core.List.{List}
use Prim.Native.Nat.{ℕ, ◌+◌, ◌*◌, ◌≤◌, ◌<◌}
use native.Mathlib.Omega.{arith}
use native.Mathlib.Decide.{dec_lt}
use lib.ListN.{length}
use Rattle.base.specs.Part.{part, splice}
use Rattle.base.proofs.Parts.{part_before, part_after, part_part, splice_splice, cell_in}
use Rattle.geometry.specs.declared.params.Params.{Params}
use Rattle.geometry.specs.declared.params.Lba.{Lba}
use Rattle.geometry.specs.declared.params.Track.{Track}
use Rattle.geometry.specs.Params.{track_count, slot_size, track_size, track_start, track_of, sector_of}
use Rattle.geometry.proofs.Addresses.{same_track}
use Rattle.track.specs.Image.{Fits, track_bytes, with_track, slot_data, with_data}
use Rattle.track.specs.Find.{Slot, Fault}
use Rattle.track.proofs.Laws.{track_room}
use Rattle.sectors.specs.Transfer.{found}
use Rattle.contents.specs.Content.{Bytes, Missing, content_in, content_at, content_of, put_in, put}
use Rattle.contents.proofs.Terms.{data_start}

-- an address is a sector of its track
pub content_at_lem : (p : Params) (a : Lba) (image : List ℕ) → content_of p a image ≡ content_at p (track_of p a) (sector_of p a) image
unfolding content_of content_at found
content_at_lem p a image = refl

-- ---- by what is found
module _ (p : Params) (a : Lba) (image : List ℕ) where
  pub content_fault : (code : ℕ) → found p a image ≡ Fault code → content_of p a image ≡ Missing code
  unfolding content_of content_in
  content_fault code e = rw e refl

  pub put_fault : (code : ℕ) → found p a image ≡ Fault code → (sector : List ℕ) → put p a sector image ≡ image
  unfolding put put_in
  put_fault code e sector = rw e refl

-- ---- the data of slot k of track u: one stretch
module _ (p : Params) (u : Track) (k : ℕ) (hk : k < p.sectors) where
  slot_end : k * slot_size p + 8 + p.size ≤ track_size p
  slot_end = omega (arith, cell_in (slot_size p) k p.sectors hk)

  pub data_room : (image : List ℕ) → Fits p image → u.0 < track_count p → data_start p u k + p.size ≤ length image
  data_room image f hu = omega (arith, slot_end, track_room p u (length image) hu f.long)

  module _ (a : Lba) (image : List ℕ) (e : found p a image ≡ Slot u k) where
    pub content_slot : content_of p a image ≡ Bytes (part (data_start p u k) p.size image)
    unfolding content_of content_in slot_data track_bytes
    content_slot = rw e (ap Bytes (part_part (track_start p u) (track_size p) (k * slot_size p + 8) p.size image slot_end))

    pub put_slot : Fits p image → u.0 < track_count p → (sector : List ℕ) → length sector ≡ p.size → put p a sector image ≡ splice (data_start p u k) sector image
    unfolding put put_in with_track with_data track_bytes
    put_slot f hu sector ls =
        rw e
        (splice_splice (track_start p u) (track_size p) (k * slot_size p + 8) sector image (omega (arith, slot_end)) (track_room p u (length image) hu f.long))

-- ---- two slots' data lie apart
pub data_apart : (p : Params) (u v : Track) (k j : ℕ) → k < p.sectors → j < p.sectors → (Slot u k ≡ Slot v j → ⊥)
    → (data_start p u k + p.size ≤ data_start p v j) ⊎ (data_start p v j + p.size ≤ data_start p u k)
data_apart p u v k j hk hj ne = by (dec_lt u.0 v.0) (dec_lt v.0 u.0) (dec_lt k j) (dec_lt j k)
  where
    by : Dec (u.0 < v.0) → Dec (v.0 < u.0) → Dec (k < j) → Dec (j < k)
        → (data_start p u k + p.size ≤ data_start p v j) ⊎ (data_start p v j + p.size ≤ data_start p u k)
    by (yes l) _ _ _ = inl (omega (arith, slot_end p u k hk, cell_in (track_size p) u.0 v.0 l))
    by (no _) (yes l) _ _ = inr (omega (arith, slot_end p v j hj, cell_in (track_size p) v.0 u.0 l))
    by (no l) (no m) (yes h) _ =
        let e : u.0 ≡ v.0 = omega arith in
        let z : u.0 * track_size p ≡ v.0 * track_size p = ap (λ (i : ℕ). i * track_size p) e in
        inl (omega (arith, z, cell_in (slot_size p) k j h))
    by (no l) (no m) (no _) (yes h) =
        let e : u.0 ≡ v.0 = omega arith in
        let z : u.0 * track_size p ≡ v.0 * track_size p = ap (λ (i : ℕ). i * track_size p) e in
        inr (omega (arith, z, cell_in (slot_size p) j k h))
    by (no l) (no m) (no h) (no i) =
        let e : u.0 ≡ v.0 = omega arith in
        let z : k ≡ j = omega arith in
        absurd (ne (ap (λ (t : Track). Slot t k) (same_track u v e) ∙ ap (Slot v) z))

-- a stretch beside the one replaced
pub part_beside : (at i size : ℕ) (ys xs : List ℕ) → (at + length ys ≤ i) ⊎ (i + size ≤ at) → at + length ys ≤ length xs → part i size (splice at ys xs) ≡ part i size xs
part_beside at i size ys xs (inl h) room = part_after i size at ys xs h room
part_beside at i size ys xs (inr h) room = part_before i size at ys xs h room
