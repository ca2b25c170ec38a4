-- The slot that is used for a sector: it holds the sector, no slot before it does, and one is used wherever there is one.
use mathlib.Core.Path.{◌≡◌, refl, sym, ◌∙◌}
use mathlib.Core.Bool.{true, false}
use mathlib.Core.Option.{none, some}
use mathlib.Core.List.{List}
use Prim.Native.Nat.{ℕ, ◌<◌}
use lib.Dec.{eqb}
use borrow.Author.Tests.{eqb-true}
use Rattle.base.proofs.Bools.{both_true}
use Rattle.base.proofs.Firsts.{first_some, first_before, first_none}
use Rattle.geometry.specs.declared.params.Params.{Params}
use Rattle.geometry.specs.declared.params.Track.{Track}
use Rattle.track.specs.Find.{On, Off}
use Rattle.track.specs.declared.id.Id.{Id}
use Rattle.track.specs.Id.{id_in}
use Rattle.track.specs.Image.{track_bytes, slot_id}
use Rattle.track.specs.Find.{Fault}
use Rattle.track.specs.Find.{where_of, holds, slot_used, sector_in, sector_from, sector_found}

module _ (p : Params) (s : ℕ) (bytes : List ℕ) where
  pub used_holds : (k : ℕ) → slot_used p s bytes ≡ some k → (k < p.sectors) × (holds p s bytes k ≡ true)
  unfolding slot_used
  used_holds k e = first_some (holds p s bytes) p.sectors k e

  pub used_first : (k : ℕ) → slot_used p s bytes ≡ some k → (j : ℕ) → j < k → holds p s bytes j ≡ false
  unfolding slot_used
  used_first k e = first_before (holds p s bytes) p.sectors k e

  pub unused : slot_used p s bytes ≡ none → (k : ℕ) → k < p.sectors → holds p s bytes k ≡ false
  unfolding slot_used
  unused e = first_none (holds p s bytes) p.sectors e

-- a slot holds one sector
pub holds_one : (p : Params) (s r : ℕ) (bytes : List ℕ) (k : ℕ) → holds p s bytes k ≡ true → holds p r bytes k ≡ true → s ≡ r
unfolding holds
holds_one p s r bytes k hs hr =
    let id : Id = id_in (slot_id p k bytes) in
    let mark = eqb id.mark 0xA1 in
    sym (eqb-true id.sector s (both_true mark _ hs).1) ∙ eqb-true id.sector r (both_true mark _ hr).1

-- finding, by where the search for the track's sectors goes on
module _ (p : Params) (t : Track) (s : ℕ) (image : List ℕ) where
  pub sector_on : (u : Track) → where_of p t image ≡ On u → sector_found p t s image ≡ sector_in u (slot_used p s (track_bytes p u image))
  unfolding sector_found sector_from
  sector_on u e = rw e refl

  pub sector_off : (code : ℕ) → where_of p t image ≡ Off code → sector_found p t s image ≡ Fault code
  unfolding sector_found sector_from
  sector_off code e = rw e refl
