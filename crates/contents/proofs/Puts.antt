-- A sector put at an address of the drive: what it changes and what it leaves, in any image.
use mathlib.Core.Path.{◌≡◌, refl, sym, ap, ◌∙◌}
use mathlib.Core.Logic.{◌⊎◌, inl, inr}
use mathlib.Core.List.{List}
use Prim.Native.Nat.{ℕ, ◌+◌, ◌≤◌, ◌<◌}
use native.Mathlib.Omega.{arith}
use lib.ListN.{length}
use Rattle.base.specs.Part.{part, splice}
use Rattle.base.proofs.Parts.{length_part, length_splice, part_same}
use Rattle.geometry.specs.declared.params.Params.{Params}
use Rattle.geometry.specs.declared.params.Lba.{Lba}
use Rattle.geometry.specs.declared.params.Track.{Track}
use Rattle.geometry.specs.Params.{track_count, track_of, sector_of, OnDrive}
use Rattle.geometry.proofs.Addresses.{track_in}
use Rattle.track.specs.Image.{Fits}
use Rattle.track.specs.Find.{Sector}
use Rattle.track.specs.Find.{Slot, Fault}
use Rattle.track.proofs.Laws.{SameIds, found_same, data_keeps}
use Rattle.sectors.specs.Transfer.{found}
use Rattle.sectors.proofs.Laws.{found_slot, slots_apart}
use Rattle.contents.specs.Content.{Bytes, Missing, content_of, put_in, put}
use Rattle.contents.proofs.Terms.{data_start}
use Rattle.base.proofs.Splices.{splice_again, splice_back, splice_apart}
use Rattle.contents.proofs.Places.{content_fault, put_fault, data_room, content_slot, put_slot, data_apart, part_beside}

-- what follows from a code and from a slot, whichever is found
pub by_found : (p : Params) (a : Lba) (image : List ℕ) (P : Type 0)
    → ((code : ℕ) → found p a image ≡ Fault code → P) → ((u : Track) (k : ℕ) → found p a image ≡ Slot u k → P) → P
by_found p a image P fault slot = by (found p a image) refl
  where
    by : (s : Sector) → found p a image ≡ s → P
    by (Fault code) e = fault code e
    by (Slot u k) e = slot u k e

pub bytes_same : (x y : List ℕ) → Bytes x ≡ Bytes y → x ≡ y
bytes_same x y e = cc

pub missing_bytes : (code : ℕ) (x : List ℕ) → Missing code ≡ Bytes x → ⊥
missing_bytes code x e = let z : ◌≡◌ {A = ℕ} 0 1 = cc in omega arith

-- ---- an address found in slot k of track u
module _ (p : Params) (image : List ℕ) (f : Fits p image) (a : Lba) (ha : OnDrive p a) (u : Track) (k : ℕ) (e : found p a image ≡ Slot u k) where
  its_track : u.0 < track_count p
  its_track = (found_slot p a image u k f.within ha e).0

  its_number : k < p.sectors
  its_number = (found_slot p a image u k f.within ha e).1

  room : data_start p u k + p.size ≤ length image
  room = data_room p u k its_number image f its_track

  its_content : content_of p a image ≡ Bytes (part (data_start p u k) p.size image)
  its_content = content_slot p u k its_number a image e

  module _ (sector : List ℕ) (ls : length sector ≡ p.size) where
    pub put_splices : put p a sector image ≡ splice (data_start p u k) sector image
    put_splices = put_slot p u k its_number a image e f its_track sector ls

    room_for : data_start p u k + length sector ≤ length image
    room_for = omega (arith, room, ls)

    put_keeps : SameIds p (put p a sector image) image
    unfolding put put_in
    put_keeps = rw e (data_keeps p image u k sector f.long its_track its_number ls)

    -- bytes outside the slot's data stay
    pub put_beside : (i size : ℕ) → (data_start p u k + p.size ≤ i) ⊎ (i + size ≤ data_start p u k) → part i size (put p a sector image) ≡ part i size image
    put_beside i size beside = ap (part i size) put_splices ∙ part_beside (data_start p u k) i size sector image (by beside) room_for
      where
        by : (data_start p u k + p.size ≤ i) ⊎ (i + size ≤ data_start p u k) → (data_start p u k + length sector ≤ i) ⊎ (i + size ≤ data_start p u k)
        by (inl h) = inl (omega arith)
        by (inr h) = inr h

-- what is read has D bytes
pub content_length : (p : Params) (image : List ℕ) → Fits p image → (a : Lba) → OnDrive p a → (d : List ℕ) → content_of p a image ≡ Bytes d → length d ≡ p.size
content_length p image f a ha d ed =
    by_found p a image (length d ≡ p.size)
    (λ code e. absurd (missing_bytes code d (sym (content_fault p a image code e) ∙ ed)))
    (λ u k e.
    ap length (bytes_same d (part (data_start p u k) p.size image) (sym ed ∙ its_content p image f a ha u k e))
    ∙ length_part (data_start p u k) p.size image (room p image f a ha u k e))

-- ---- one sector put
module _ (p : Params) (image : List ℕ) (f : Fits p image) (a : Lba) (ha : OnDrive p a) (sector : List ℕ) (ls : length sector ≡ p.size) where
  pub put_length : length (put p a sector image) ≡ length image
  put_length =
      by_found p a image (length (put p a sector image) ≡ length image)
      (λ code e. ap length (put_fault p a image code e sector))
      (λ u k e.
      ap length (put_splices p image f a ha u k e sector ls)
      ∙ length_splice (data_start p u k) sector image (room_for p image f a ha u k e sector ls))

  pub put_fits : Fits p (put p a sector image)
  put_fits = record { within = f.within; long = rw put_length f.long }

  -- every address is found where it was
  pub put_found : (b : Lba) → OnDrive p b → found p b (put p a sector image) ≡ found p b image
  unfolding found
  put_found b hb =
      by_found p a image (found p b (put p a sector image) ≡ found p b image)
      (λ code e. ap (found p b) (put_fault p a image code e sector))
      (λ u k e.
      found_same p (put p a sector image) image (omega (arith, f.within.sectors_some)) (put_keeps p image f a ha u k e sector ls)
      (sector_of p b) (track_of p b) (track_in p f.within b hb))

  -- the sector put is read, where one is found
  pub put_same : (u : Track) (k : ℕ) → found p a image ≡ Slot u k → content_of p a (put p a sector image) ≡ Bytes sector
  put_same u k e =
      its_content p (put p a sector image) put_fits a ha u k (put_found a ha ∙ e)
      ∙ ap Bytes
      (ap (part (data_start p u k) p.size) (put_splices p image f a ha u k e sector ls)
      ∙ part_same (data_start p u k) p.size sector image ls (room p image f a ha u k e))

  -- every other address reads as before
  pub put_other : (b : Lba) → OnDrive p b → (a ≡ b → ⊥) → content_of p b (put p a sector image) ≡ content_of p b image
  put_other b hb ne =
      by_found p a image (content_of p b (put p a sector image) ≡ content_of p b image)
      (λ code e. ap (content_of p b) (put_fault p a image code e sector))
      (λ u k e.
      by_found p b image (content_of p b (put p a sector image) ≡ content_of p b image)
      (λ code e'. content_fault p b (put p a sector image) code (put_found b hb ∙ e') ∙ sym (content_fault p b image code e'))
      (λ v j e'.
      its_content p (put p a sector image) put_fits b hb v j (put_found b hb ∙ e')
      ∙ ap Bytes (put_beside p image f a ha u k e sector ls (data_start p v j) p.size (apart u v k j e e'))
      ∙ sym (its_content p image f b hb v j e')))
    where
      apart : (u v : Track) (k j : ℕ) → found p a image ≡ Slot u k → found p b image ≡ Slot v j
          → (data_start p u k + p.size ≤ data_start p v j) ⊎ (data_start p v j + p.size ≤ data_start p u k)
      apart u v k j e e' =
          data_apart p u v k j (its_number p image f a ha u k e) (its_number p image f b hb v j e')
          (λ z. ne (slots_apart p a b image u k e (e' ∙ sym z)))

  -- a sector put over another
  pub put_again : (over : List ℕ) → length over ≡ p.size → put p a over (put p a sector image) ≡ put p a over image
  put_again over lo =
      by_found p a image (put p a over (put p a sector image) ≡ put p a over image)
      (λ code e. ap (put p a over) (put_fault p a image code e sector))
      (λ u k e.
      put_splices p (put p a sector image) put_fits a ha u k (put_found a ha ∙ e) over lo
      ∙ ap (splice (data_start p u k) over) (put_splices p image f a ha u k e sector ls)
      ∙ splice_again (data_start p u k) over sector image (lo ∙ sym ls) (omega (arith, room p image f a ha u k e))
      ∙ sym (put_splices p image f a ha u k e over lo))

  -- the old bytes put back
  pub put_back : (old : List ℕ) → content_of p a image ≡ Bytes old → put p a old (put p a sector image) ≡ image
  put_back old eo =
      by_found p a image (put p a old (put p a sector image) ≡ image)
      (λ code e. absurd (missing_bytes code old (sym (content_fault p a image code e) ∙ eo)))
      (λ u k e.
      let is : old ≡ part (data_start p u k) p.size image = bytes_same old _ (sym eo ∙ its_content p image f a ha u k e) in
      put_splices p (put p a sector image) put_fits a ha u k (put_found a ha ∙ e) old (content_length p image f a ha old eo)
      ∙ ap (splice (data_start p u k) old) (put_splices p image f a ha u k e sector ls)
      ∙ ap (λ (l : List ℕ). splice (data_start p u k) l (splice (data_start p u k) sector image)) is
      ∙ splice_back (data_start p u k) p.size sector image ls (room p image f a ha u k e))

-- ---- two sectors put, in either order
module _ (p : Params) (image : List ℕ) (f : Fits p image) (a b : Lba) (ha : OnDrive p a) (hb : OnDrive p b) (x y : List ℕ)
    (lx : length x ≡ p.size) (ly : length y ≡ p.size) where
  both_splice : (u v : Track) (k j : ℕ) → found p a image ≡ Slot u k → found p b image ≡ Slot v j
      → put p a x (put p b y image) ≡ splice (data_start p u k) x (splice (data_start p v j) y image)
  both_splice u v k j e e' =
      put_splices p (put p b y image) (put_fits p image f b hb y ly) a ha u k (put_found p image f b hb y ly a ha ∙ e) x lx
      ∙ ap (splice (data_start p u k) x) (put_splices p image f b hb v j e' y ly)

pub put_comm : (p : Params) (image : List ℕ) → Fits p image → (a b : Lba) → OnDrive p a → OnDrive p b → (x y : List ℕ) → length x ≡ p.size
    → length y ≡ p.size → (a ≡ b → ⊥) → put p a x (put p b y image) ≡ put p b y (put p a x image)
put_comm p image f a b ha hb x y lx ly ne =
    by_found p a image (put p a x (put p b y image) ≡ put p b y (put p a x image))
    (λ code e.
    put_fault p a (put p b y image) code (put_found p image f b hb y ly a ha ∙ e) x
    ∙ ap (put p b y) (sym (put_fault p a image code e x)))
    (λ u k e.
    by_found p b image (put p a x (put p b y image) ≡ put p b y (put p a x image))
    (λ code e'.
    ap (put p a x) (put_fault p b image code e' y)
    ∙ sym (put_fault p b (put p a x image) code (put_found p image f a ha x lx b hb ∙ e') y))
    (λ v j e'.
    both_splice p image f a b ha hb x y lx ly u v k j e e'
    ∙ swap u v k j e e'
    ∙ sym (both_splice p image f b a hb ha y x ly lx v u j k e' e)))
  where
    swap : (u v : Track) (k j : ℕ) → found p a image ≡ Slot u k → found p b image ≡ Slot v j
        → splice (data_start p u k) x (splice (data_start p v j) y image) ≡ splice (data_start p v j) y (splice (data_start p u k) x image)
    swap u v k j e e' =
        by
        (data_apart p u v k j (its_number p image f a ha u k e) (its_number p image f b hb v j e')
        (λ z. ne (slots_apart p a b image u k e (e' ∙ sym z))))
      where
        by : (data_start p u k + p.size ≤ data_start p v j) ⊎ (data_start p v j + p.size ≤ data_start p u k)
            → splice (data_start p u k) x (splice (data_start p v j) y image) ≡ splice (data_start p v j) y (splice (data_start p u k) x image)
        by (inl h) = splice_apart (data_start p u k) (data_start p v j) x y image (omega arith) (omega (arith, ly, room p image f b hb v j e'))
        by (inr h) = sym (splice_apart (data_start p v j) (data_start p u k) y x image (omega arith) (omega (arith, lx, room p image f a ha u k e)))
