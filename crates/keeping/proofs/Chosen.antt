-- The tests before a move say that it may be made.
use mathlib.Core.Path.{◌≡◌, refl, sym, ap, ◌∙◌}
use mathlib.Core.Logic.{◌⊎◌, inl, inr}
use mathlib.Core.List.{List}
use Prim.Native.Nat.{ℕ, ◌<◌}
use native.Mathlib.Omega.{arith}
use Rattle.geometry.specs.declared.params.Params.{Params}
use Rattle.geometry.specs.declared.params.Track.{Track}
use Rattle.geometry.specs.Params.{track_count}
use Rattle.track.specs.declared.state.State.TheVariants.{Sound, Moved, Taken}
use Rattle.track.specs.Find.{Where}
use Rattle.track.specs.Find.{On, Off}
use Rattle.track.specs.Find.{Sector}
use Rattle.track.specs.Find.{Slot, Fault}
use Rattle.track.specs.Image.{Fits, track_bytes, slot_data}
use Rattle.track.specs.Find.{where_of, sector_found}
use Rattle.track.specs.Pair.{state_of}
use Rattle.track.proofs.Laws.{where_state, located_code}
use Rattle.formatter.proofs.Laws.{Formed, found_sound}
use Rattle.contents.specs.Content.{Bytes, content_in, content_at}
use Rattle.contents.proofs.Laws.{missing_bytes}
use Rattle.keeping.specs.Keep.{code_of, keep_code, Keepable}
use Rattle.keeping.proofs.Reading.{content_off, content_slot}
use Rattle.keeping.proofs.Missing.{none_missing, missing_none}

-- a sector with code 0 has data
bytes_in : (p : Params) (t : Track) (s : ℕ) (image : List ℕ) (f : Sector) → sector_found p t s image ≡ f → code_of (content_in p image f) ≡ 0
    → (sector : List ℕ) × (content_in p image f ≡ Bytes sector)
unfolding content_in code_of
bytes_in p t s image (Slot u k) e z = (slot_data p k (track_bytes p u image), refl)
bytes_in p t s image (Fault code) e z = absurd (omega (arith, z, (located_code p t s image code e).0))

code_bytes : (p : Params) (t : Track) (s : ℕ) (image : List ℕ) → code_of (content_at p t s image) ≡ 0 → (sector : List ℕ) × (content_at p t s image ≡ Bytes sector)
unfolding content_at
code_bytes p t s image = bytes_in p t s image (sector_found p t s image) refl

module _ (p : Params) (from to : Track) (image : List ℕ) (fits : Fits p image) (hf : from.0 < track_count p) (ht : to.0 < track_count p) (ne : from.0 ≡ to.0 → ⊥)
    (free : (state_of p to image ≡ Sound) ⊎ (state_of p to image ≡ Taken from)) where
  some_sector : 0 < p.sectors
  some_sector = omega (arith, fits.within.sectors_some)

  -- A is not moved, and none of its sectors is missing
  pub may_keep : ((u : Track) → state_of p from image ≡ Moved u → ⊥) → keep_code p from image ≡ 0 → Keepable p from to image
  may_keep unmoved code = record { from_in = hf; to_in = ht; apart = ne; home = home (where_of p from image) refl; whole = whole; free = free }
    where
      whole : (s : ℕ) → s < p.sectors → (sector : List ℕ) × (content_at p from s image ≡ Bytes sector)
      whole s h = code_bytes p from s image (none_missing p from image code s h)

      itself : (u : Track) → (from ≡ u) ⊎ (state_of p from image ≡ Moved u) → On u ≡ On from
      itself u (inl e) = ap On (sym e)
      itself u (inr e) = absurd (unmoved u e)

      home : (w : Where) → where_of p from image ≡ w → where_of p from image ≡ On from
      home (Off c) e = let first = whole 0 some_sector in absurd (missing_bytes c first.0 (sym (content_off p from 0 image c e) ∙ first.1))
      home (On u) e = e ∙ itself u (where_state p from u image e)

-- and the other way: where it may be made none is missing
bytes_code : (p : Params) (t : Track) (s : ℕ) (image sector : List ℕ) → content_at p t s image ≡ Bytes sector → code_of (content_at p t s image) ≡ 0
unfolding code_of
bytes_code p t s image sector e = rw e

pub keepable_code : (p : Params) (from to : Track) (image : List ℕ) → Keepable p from to image → keep_code p from image ≡ 0
keepable_code p from to image may = missing_none p from image (λ s h. let w = may.whole s h in bytes_code p from s image w.0 w.1)

-- a track that was formatted as sound has all its sectors
pub sound_code : (p : Params) (t : Track) (f : ℕ) (image : List ℕ) → 0 < p.sectors → Formed p t Sound f image → keep_code p t image ≡ 0
sound_code p t f image n form = missing_none p t image (λ s h. bytes_code p t s image _ (content_slot p t t s _ image (found_sound p t f s image n h form)))
