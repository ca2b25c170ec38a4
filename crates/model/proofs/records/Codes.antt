-- The codes of transfers are below 23h, so that a sense with 23h is that of a Copy whose last sector was filled in part.
use Prim.Native.Nat.{ℕ, zero, suc, ◌+◌, ◌≤◌}
use mathlib.Core.Path.{◌≡◌, refl}
use mathlib.Core.Bool.{Bool, true, false}
use mathlib.Core.Option.{Option, none, some}
use mathlib.Core.List.{List, ◌∷◌}
use native.Mathlib.Omega.{arith}
use lib.ListN.{drop, get_or}
use Rattle.base.specs.Pick.{pick}
use Rattle.geometry.specs.declared.params.Lba.{Lba}
use Rattle.geometry.specs.declared.params.Track.{Track}
use Rattle.geometry.specs.declared.params.Params.{Params}
use Rattle.geometry.specs.Params.{next}
use Rattle.track.specs.declared.id.Id.{Id}
use Rattle.track.specs.Find.{Where}
use Rattle.track.specs.Find.{On, Off}
use Rattle.track.specs.Find.{Fault}
use Rattle.track.specs.Find.{where_by, where_of, sector_in, sector_from, sector_found, slot_used}
use Rattle.track.specs.Image.{track_bytes}
use Rattle.sectors.specs.Transfer.{Transfer, begun, ended, read_slot, write_slot, found, reading, writing}
use Rattle.sectors.proofs.Laws.{onward_has}
use Rattle.model.specs.Sense.{addressed, sense_of}

-- ---- A sector that is not found
abbrev Low : Where → Type 0
Low w = (code : ℕ) → w ≡ Off code → code ≤ 0x22

low_off : (c : ℕ) → c ≤ 0x22 → Low (Off c)
low_off c l code e = let z : c ≡ code = cc in omega (arith, l, z)

low_on : (u : Track) → Low (On u)
low_on u code e = absurd (let z : ◌≡◌ {A = ℕ} 0 1 = cc in omega arith)

low_pick : (b : Bool) (x y : Where) → Low x → Low y → Low (pick b x y)
unfolding pick
low_pick true x y hx hy = hx
low_pick false x y hx hy = hy

where_low : (t : Track) (id : Id) (own taken : Bool) → Low (where_by t id own taken)
unfolding where_by
where_low t id own taken =
    low_pick _ _ _ (low_off _ (omega arith))
    (low_pick _ _ _ (low_off _ (omega arith))
    (low_pick _ _ _ (low_off _ (omega arith))
    (low_pick _ _ _ (low_off _ (omega arith))
    (low_pick _ _ _ (low_off _ (omega arith))
    (low_pick _ _ _ (low_pick _ _ _ (low_on _) (low_off _ (omega arith))) (low_on t))))))

same_fault : (c code : ℕ) → Fault c ≡ Fault code → c ≡ code
same_fault c code e = cc

in_low : (u : Track) (o : Option ℕ) (code : ℕ) → sector_in u o ≡ Fault code → code ≤ 0x22
unfolding sector_in
in_low u none code e = let z = same_fault 0x14 code e in omega (arith, z)
in_low u (some k) code e = absurd (let z : ◌≡◌ {A = ℕ} 0 1 = cc in omega arith)

from_low : (p : Params) (s : ℕ) (image : List ℕ) (w : Where) → Low w → (code : ℕ) → sector_from p s image w ≡ Fault code → code ≤ 0x22
unfolding sector_from
from_low p s image (Off c) low code e = let z = same_fault c code e in omega (arith, z, low c refl)
from_low p s image (On u) low code e = in_low u (slot_used p s (track_bytes p u image)) code e

found_low : (p : Params) (a : Lba) (image : List ℕ) (code : ℕ) → found p a image ≡ Fault code → code ≤ 0x22
unfolding found sector_found where_of
found_low p a image code e = from_low p _ image _ (where_low _ _ _ _) code e

-- ---- Transfers
module _ (p : Params) where
  abbrev LowEnd : Transfer → Type 0
  LowEnd x = x.code ≤ 0x22

  read_on : (n : ℕ) (a : Lba) (x : Transfer) → LowEnd x → LowEnd (reading p n a x)
  unfolding reading read_slot ended
  read_on zero a x h = h
  read_on (suc n) a x h =
      onward_has LowEnd x _ (found p a x.image) (λ code e. found_low p a x.image code e) (λ u k e. read_on n (next a) _ (omega arith))

  write_on_lem : (n : ℕ) (a : Lba) (given : List ℕ) (x : Transfer) → LowEnd x → LowEnd (writing p n a given x)
  unfolding writing write_slot ended
  write_on_lem zero a given x h = h
  write_on_lem (suc n) a given x h =
      onward_has LowEnd x _ (found p a x.image) (λ code e. found_low p a x.image code e)
      (λ u k e. write_on_lem n (next a) (drop p.size given) _ (omega arith))

  pub reading_low : (n : ℕ) (a : Lba) (image : List ℕ) → (reading p n a (begun image)).code ≤ 0x22
  unfolding begun
  reading_low n a image = read_on n a (begun image) (omega arith)

  pub writing_low : (n : ℕ) (a : Lba) (given image : List ℕ) → (writing p n a given (begun image)).code ≤ 0x22
  unfolding begun
  writing_low n a given image = write_on_lem n a given (begun image) (omega arith)

-- ---- Their sense has not 23h
front_low : (b : Bool) (code : ℕ) (xs ys : List ℕ) → code ≤ 0x22 → get_or (pick b ((code + 0x80) ∷ xs) (code ∷ ys)) 0 0 ≡ 0xA3 → ⊥
unfolding pick
front_low true code xs ys l e = let z : code + 0x80 ≡ 0xA3 = e in omega (arith, z, l)
front_low false code xs ys l e = let z : code ≡ 0xA3 = e in omega (arith, z, l)

pub sense_low : (code named : ℕ) (at : Lba) → code ≤ 0x22 → get_or (sense_of code named at) 0 0 ≡ 0xA3 → ⊥
unfolding sense_of
sense_low code named at l e = front_low (addressed code) code _ _ l e
