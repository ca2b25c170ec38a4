-- Laws of ID bytes.
use mathlib.Core.Path.{◌≡◌, refl, ap₂}
use mathlib.Core.Bool.{true}
use Prim.Native.Nat.{ℕ}
use native.Mathlib.Nat.{div-add-mod'}
use lib.ListN.{length}
use borrow.Author.Tests.{eq-eqb}
use Rattle.geometry.specs.declared.params.Params.{Params}
use Rattle.geometry.specs.declared.params.Track.{Track}
use Rattle.geometry.specs.Params.{cylinder_of, head_of, track}
use Rattle.track.specs.declared.id.Id.{Id}
use Rattle.track.specs.declared.state.State.{State}
use Rattle.track.specs.Id.{id_bytes, id_in, id_for, own_id, with_sector}

pub id_length : (id : Id) → length (id_bytes id) ≡ 8
unfolding id_bytes
id_length id = refl

-- what was written is read
pub id_back : (id : Id) → id_in (id_bytes id) ≡ id
unfolding id_in id_bytes
id_back id =
    ap₂ {C = Id} (λ (c : ℕ) (u : ℕ). record { mark = id.mark; cylinder = c; head = id.head; sector = id.sector; flag = id.flag; partner = track u })
    (div-add-mod' id.cylinder 256) (div-add-mod' id.partner.0 256)

pub own_for : (p : Params) (t : Track) (state : State) (s : ℕ) → own_id p t (id_for p t state s) ≡ true
unfolding own_id id_for
own_for p t state s = rw (eq-eqb (cylinder_of p t) (cylinder_of p t) refl, eq-eqb (head_of p t) (head_of p t) refl)

pub sector_for : (p : Params) (t : Track) (state : State) (r s : ℕ) → with_sector (id_for p t state r) s ≡ id_for p t state s
unfolding with_sector id_for
sector_for p t state r s = refl
