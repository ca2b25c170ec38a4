-- What holds of a transfer's next sector: where it is found and where it is not.
use mathlib.Core.Path.{◌≡◌, refl}
use Prim.Native.Nat.{ℕ}
use Rattle.geometry.specs.declared.params.Track.{Track}
use Rattle.track.specs.Find.{Sector}
use Rattle.track.specs.Find.{Slot, Fault}
use Rattle.sectors.specs.Transfer.{Transfer, ended, onward}

pub onward_has : (P : Transfer → Type 0) (x : Transfer) (next : Track → ℕ → Transfer) (s : Sector)
    → ((code : ℕ) → s ≡ Fault code → P (ended code x)) → ((u : Track) (k : ℕ) → s ≡ Slot u k → P (next u k)) → P (onward x next s)
unfolding onward
onward_has P x next (Fault code) hf hs = hf code refl
onward_has P x next (Slot u k) hf hs = hs u k refl

-- two transfers that find the same sector
pub onward_both : (R : Transfer → Transfer → Type 0) (x y : Transfer) (f g : Track → ℕ → Transfer) (s r : Sector) → s ≡ r
    → ((code : ℕ) → s ≡ Fault code → R (ended code x) (ended code y)) → ((u : Track) (k : ℕ) → R (f u k) (g u k))
    → R (onward x f s) (onward y g r)
unfolding onward
onward_both R x y f g (Fault code) r e hf hs = rw (← e) (hf code refl)
onward_both R x y f g (Slot u k) r e hf hs = rw (← e) (hs u k)
