-- The loop that looks for the first slot of a track that holds a sector, and what finding makes of it.
use mathlib.Core.Path.{◌≡◌, sym, ap, ◌∙◌}
use mathlib.Core.Bool.{Bool, true, false, ◌&&◌}
use mathlib.Core.List.{List}
use Prim.Native.Nat.{ℕ, ◌+◌, ◌≤◌, ◌<◌}
use lib.Dec.{eqb}
use Rattle.base.proofs.Firsts.{Sought, sought_hit, sought_more, sought_all}
use Rattle.geometry.specs.declared.params.Params.{Params}
use Rattle.geometry.specs.declared.params.Track.{Track}
use Rattle.track.specs.Find.{Where}
use Rattle.track.specs.Find.{On, Off}
use Rattle.track.specs.Find.{Sector}
use Rattle.track.specs.Find.{Slot, Fault}
use Rattle.track.specs.Id.{id_in}
use Rattle.track.specs.Image.{track_bytes, slot_id}
use Rattle.track.specs.Find.{where_of, holds, slot_used, sector_in, sector_found}
use Rattle.track.proofs.Used.{sector_on, sector_off}

-- these ID bytes are those of a slot that holds s
abbrev pub holds_id : (s : ℕ) → (id : List ℕ) → Bool
holds_id s id = eqb (id_in id).mark 0xA1 && eqb (id_in id).sector s

-- ---- the loop: none of the first k slots holds s
module _ (p : Params) (s : ℕ) (bytes : List ℕ) (k : ℕ) (w : Sought (holds p s bytes) p.sectors k) where
  -- slot k is looked at
  module _ (h : k < p.sectors) (id : List ℕ) (ei : id ≡ slot_id p k bytes) (is : Bool) (e : is ≡ holds_id s id) where
    here : holds p s bytes k ≡ is
    unfolding holds
    here = ap (holds_id s) (sym ei) ∙ sym e

    pub seeking_more : is ≡ false → Sought (holds p s bytes) p.sectors (k + 1)
    seeking_more z = sought_more _ _ k w h (here ∙ z)

    pub seeking_hit : (u : Track) → is ≡ true → Slot u k ≡ sector_in u (slot_used p s bytes)
    unfolding sector_in slot_used
    seeking_hit u z = sym (ap (sector_in u) (sought_hit _ _ k w h (here ∙ z)))

  -- no slot is left
  pub seeking_all : (u : Track) → p.sectors ≤ k → Fault 0x14 ≡ sector_in u (slot_used p s bytes)
  unfolding sector_in slot_used
  seeking_all u h = sym (ap (sector_in u) (sought_all _ _ k w h))

-- ---- finding, by where the search goes on
module _ (p : Params) (t : Track) (s : ℕ) (image : List ℕ) (w : Where) (ew : w ≡ where_of p t image) where
  pub finds_none : (code : ℕ) → w ≡ Off code → Fault code ≡ sector_found p t s image
  finds_none code e = sym (sector_off p t s image code (sym ew ∙ e))

  pub finds_in : (u : Track) (lent : List ℕ) (r : Sector) → w ≡ On u → lent ≡ track_bytes p u image → r ≡ sector_in u (slot_used p s lent)
      → r ≡ sector_found p t s image
  finds_in u lent r e el er =
      er ∙ ap (λ (bytes : List ℕ). sector_in u (slot_used p s bytes)) el ∙ sym (sector_on p t s image u (sym ew ∙ e))
