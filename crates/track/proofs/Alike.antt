-- Two tracks with the same ID in every slot: each sector is found in the same one. So it is after a write of data.
use mathlib.Core.Path.{◌≡◌, sym, ap, ◌∙◌}
use mathlib.Core.List.{List}
use Prim.Native.Nat.{ℕ, ◌≤◌, ◌<◌}
use native.Mathlib.Omega.{arith}
use lib.ListN.{length}
use Rattle.base.specs.First.{first_below}
use Rattle.base.proofs.Firsts.{first_same}
use Rattle.geometry.specs.declared.params.Params.{Params}
use Rattle.geometry.specs.Params.{track_size}
use Rattle.track.specs.Image.{slot_id, with_data}
use Rattle.track.specs.Find.{holds, slot_used}
use Rattle.track.specs.Search.{Note, note_of, Noted}
use Rattle.track.proofs.Images.{id_kept}
use Rattle.track.proofs.Notes.{Found}

abbrev pub Alike : Params → (a b : List ℕ) → Type 0
Alike p a b = (k : ℕ) → k < p.sectors → slot_id p k a ≡ slot_id p k b

module _ (p : Params) (a b : List ℕ) (same : Alike p a b) where
  holds_alike : (s k : ℕ) → k < p.sectors → holds p s a k ≡ holds p s b k
  unfolding holds
  holds_alike s k h = rw (same k h)

  first_alike : (s n : ℕ) → n ≤ p.sectors → first_below (holds p s a) n ≡ first_below (holds p s b) n
  unfolding first_below
  first_alike s n h = first_same (holds p s a) (holds p s b) 0 n (λ k l. holds_alike s k (omega arith))

  pub slot_alike : (s : ℕ) → slot_used p s a ≡ slot_used p s b
  unfolding slot_used
  slot_alike s = first_alike s p.sectors (omega arith)

  -- what is noted of the one holds of the other
  pub noted_alike : (slots : List Note) (looked : ℕ) → looked ≤ p.sectors → Noted p a slots looked → Noted p b slots looked
  unfolding Noted
  noted_alike slots looked h f s l = f s l ∙ ap note_of (first_alike s looked h)

  pub found_alike : (slots : List Note) (looked s : ℕ) → Found p a slots looked s → Found p b slots looked s
  found_alike slots looked s f = (f.0, f.1, noted_alike slots looked f.1 f.2, f.3 ∙ ap note_of (slot_alike s))

-- a sector's data written
module _ (p : Params) (bytes : List ℕ) (l : length bytes ≡ track_size p) (k : ℕ) (sector : List ℕ) (h : k < p.sectors) (ls : length sector ≡ p.size) where
  pub with_data_alike : Alike p bytes (with_data p k sector bytes)
  with_data_alike j hj = sym (id_kept p bytes l k sector h ls j hj)

  pub slot_kept : (s : ℕ) → slot_used p s (with_data p k sector bytes) ≡ slot_used p s bytes
  slot_kept s = sym (slot_alike p bytes (with_data p k sector bytes) with_data_alike s)
