-- A Write that goes on where another ended.
use mathlib.Core.Path.{◌≡◌, refl, ap, ◌∙◌}
use mathlib.Core.List.{List}
use Prim.Native.Nat.{ℕ, zero, suc, ◌+◌, ◌*◌}
use native.Mathlib.Omega.{arith}
use native.Mathlib.Nat.{suc-mul, zero-mul}
use lib.ListN.{take, drop}
use lib.Seq.{drop-drop}
use Rattle.base.specs.Part.{part}
use Rattle.geometry.specs.declared.params.Params.{Params}
use Rattle.geometry.specs.declared.params.Lba.{Lba}
use Rattle.geometry.specs.declared.params.Track.{Track}
use Rattle.geometry.specs.Params.{next}
use Rattle.sectors.specs.Last.{last_of}
use Rattle.sectors.specs.Transfer.{Transfer, begun, ended, write_slot, found, writing}
use Rattle.sectors.proofs.Laws.{onward_both}

-- ---- a Write that goes on from another: d sectors were done before, the last of them `last`
pub record Onto (d : ℕ) (last : List ℕ) (size : ℕ) (given : List ℕ) (x y : Transfer) : Type 0 where
  pub done : x.done ≡ d + y.done
  pub code : x.code ≡ y.code
  pub image : x.image ≡ y.image
  pub none : y.done ≡ 0 → x.last ≡ last
  pub some : (y.done ≡ 0 → ⊥) → x.last ≡ last_of y.done size given

module _ (p : Params) (d : ℕ) (last given : List ℕ) where
  onto_ended : (code : ℕ) (x y : Transfer) → Onto d last p.size given x y → Onto d last p.size given (ended code x) (ended code y)
  unfolding ended
  onto_ended code x y b = record { done = b.done; code = refl; image = b.image; none = b.none; some = b.some }

  onto_slot : (rest : List ℕ) (x y : Transfer) (u : Track) (k : ℕ) → rest ≡ drop (y.done * p.size) given → Onto d last p.size given x y
      → Onto d last p.size given (write_slot p (take p.size rest) x u k) (write_slot p (take p.size rest) y u k)
  unfolding write_slot last_of part
  onto_slot rest x y u k e b = record {
    done = omega (arith, b.done);
    code = refl;
    image = rw b.image refl;
    none = λ z. absurd (omega arith);
    some = λ z. ap (take p.size) e;
  }

  pub goes_on : (m : ℕ) (a : Lba) (rest : List ℕ) (x y : Transfer) → rest ≡ drop (y.done * p.size) given → Onto d last p.size given x y
      → Onto d last p.size given (writing p m a rest x) (writing p m a rest y)
  unfolding writing write_slot
  goes_on zero a rest x y e b = b
  goes_on (suc m) a rest x y e b =
      let past : drop p.size rest ≡ drop (suc y.done * p.size) given =
      ap (drop p.size) e ∙ drop-drop p.size (y.done * p.size) given ∙ rw suc-mul refl in
      onward_both (Onto d last p.size given) x y _ _ _ _ (ap (found p a) b.image) (λ code z. onto_ended code x y b)
      (λ u k. goes_on m (next a) (drop p.size rest) _ _ past (onto_slot rest x y u k e b))

-- nothing before
pub from_front : (image : List ℕ) (size : ℕ) (given : List ℕ) → given ≡ drop ((begun image).done * size) given
unfolding begun
from_front image size given = rw zero-mul refl
