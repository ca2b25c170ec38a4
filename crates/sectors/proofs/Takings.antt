-- What a Write of n sectors is: its code, nothing handed over, and its last sector.
use mathlib.Core.Path.{◌≡◌, refl, ap, ◌∙◌}
use mathlib.Core.List.{List, []}
use Prim.Native.Nat.{ℕ, zero, suc, ◌*◌, ◌<◌}
use native.Mathlib.Omega.{arith}
use native.Mathlib.Nat.{zero-mul, suc-mul}
use lib.ListN.{take, drop}
use lib.Seq.{drop-drop}
use Rattle.base.specs.Part.{part}
use Rattle.geometry.specs.declared.params.Params.{Params}
use Rattle.geometry.specs.declared.params.Lba.{Lba}
use Rattle.geometry.specs.declared.params.Track.{Track}
use Rattle.geometry.specs.Params.{next}
use Rattle.track.proofs.Laws.{Code}
use Rattle.sectors.specs.Last.{last_of}
use Rattle.sectors.specs.Transfer.{Transfer, begun, ended, write_slot, found, writing}
use Rattle.sectors.proofs.Founds.{found_fault}
use Rattle.sectors.proofs.Onwards.{onward_has}

-- nothing is handed over, and each sector is the next D bytes given
pub record Taken (p : Params) (given : List ℕ) (x : Transfer) : Type 0 where
  pub code : x.code < 0x80
  pub none : x.handed ≡ []
  pub last : x.last ≡ last_of x.done p.size given

module _ (p : Params) (given : List ℕ) where
  taken_none : (image : List ℕ) → Taken p given (begun image)
  unfolding begun last_of
  taken_none image = record { code = omega arith; none = refl; last = refl }

  module _ (x : Transfer) (w : Taken p given x) where
    taken_ended : (code : ℕ) → Code code → Taken p given (ended code x)
    unfolding ended
    taken_ended code h = record { code = h.1; none = w.none; last = w.last }

    taken_slot : (u : Track) (k : ℕ) (rest : List ℕ) → rest ≡ drop (x.done * p.size) given → Taken p given (write_slot p (take p.size rest) x u k)
    unfolding write_slot last_of part
    taken_slot u k rest e = record { code = omega arith; none = w.none; last = ap (take p.size) e }

  taken_on : (m : ℕ) (a : Lba) (rest : List ℕ) (x : Transfer) → Taken p given x → rest ≡ drop (x.done * p.size) given
      → Taken p given (writing p m a rest x)
  unfolding writing write_slot
  taken_on zero a rest x w er = w
  taken_on (suc m) a rest x w er =
      onward_has (Taken p given) x _ (found p a x.image)
      (λ code e. taken_ended x w code (found_fault p a x.image code e))
      (λ u k e.
      let past : drop p.size rest ≡ drop (suc x.done * p.size) given =
      ap (drop p.size) er ∙ drop-drop p.size (x.done * p.size) given ∙ rw suc-mul refl in
      taken_on m (next a) (drop p.size rest) _ (taken_slot x w u k rest er) past)

pub writing_taken : (p : Params) (n : ℕ) (a : Lba) (given image : List ℕ) → Taken p given (writing p n a given (begun image))
unfolding begun
writing_taken p n a given image = taken_on p given n a given (begun image) (taken_none p given image) (rw zero-mul refl)
