-- Sectors of one track that follow each other: their addresses, and where each is found.
use mathlib.Core.Path.{◌≡◌, refl, sym, ap}
use mathlib.Core.List.{List}
use Prim.Native.Nat.{ℕ, suc, ◌+◌, ◌*◌, ◌≤◌, ◌<◌}
use native.Mathlib.Omega.{arith}
use native.Mathlib.Nat.{div-add-mod', add-zero}
use lib.Arith.{digits_div, digits_mod}
use Rattle.geometry.specs.declared.params.Params.{Params}
use Rattle.geometry.specs.declared.params.Lba.{Lba}
use Rattle.geometry.specs.declared.params.Track.{Track}
use Rattle.geometry.specs.Params.{track_of, sector_of, further, next, track}
use Rattle.track.specs.Find.{On, Off}
use Rattle.track.specs.Image.{track_bytes}
use Rattle.track.specs.Find.{Fault}
use Rattle.track.specs.Find.{where_of, slot_used, sector_in}
use Rattle.track.proofs.Laws.{sector_on, sector_off}
use Rattle.sectors.specs.Transfer.{found}

-- ---- sector s of track t has address a: what is found by where the search for the track's sectors goes on
module _ (p : Params) (a : Lba) (image : List ℕ) (t : Track) (et : t ≡ track_of p a) where
  pub found_on : (u : Track) (s : ℕ) → s ≡ sector_of p a → where_of p t image ≡ On u
      → found p a image ≡ sector_in u (slot_used p s (track_bytes p u image))
  unfolding found
  found_on u s es e = rw (← et, ← es) (sector_on p t s image u e)

  pub found_off : (code : ℕ) → where_of p t image ≡ Off code → found p a image ≡ Fault code
  unfolding found
  found_off code e = rw (← et) (sector_off p t _ image code e)

-- track and sector by the address, and the other way
module _ (p : Params) (t : Track) (s : ℕ) (a : Lba) where
  pub address_of : t ≡ track_of p a → s ≡ sector_of p a → a.0 ≡ t.0 * p.sectors + s
  address_of et es = sym (rw (et, es) (div-add-mod' a.0 p.sectors))

  pub track_at : s < p.sectors → a.0 ≡ t.0 * p.sectors + s → t ≡ track_of p a
  track_at h e = ap track (sym (rw e (digits_div t.0 h)))

  pub sector_at_lem : s < p.sectors → a.0 ≡ t.0 * p.sectors + s → s ≡ sector_of p a
  sector_at_lem h e = sym (rw e (digits_mod t.0 h))

-- ---- m addresses from a on are those of the sectors from s on of track t
abbrev pub Along : Params → (m : ℕ) → (a : Lba) → (t : Track) → (s : ℕ) → Type 0
Along p m a t s = (i : ℕ) → i < m → (track_of p (further a i) ≡ t) × (sector_of p (further a i) ≡ s + i)

module _ (p : Params) where
  pub along_here : (m : ℕ) (a : Lba) → sector_of p a + m ≤ p.sectors → Along p m a (track_of p a) (sector_of p a)
  along_here m a h i l =
      let t = track_of p a in
      let s = sector_of p a in
      let e : a.0 + i ≡ t.0 * p.sectors + (s + i) = omega (arith, address_of p t s a refl refl) in
      let there : s + i < p.sectors = omega arith in
      (sym (track_at p t (s + i) (further a i) there e), sym (sector_at_lem p t (s + i) (further a i) there e))

  module _ (m : ℕ) (a : Lba) (t : Track) (s : ℕ) (along : Along p (suc m) a t s) where
    along_first : (track_of p a ≡ t) × (sector_of p a ≡ s)
    along_first = rw (add-zero a.0, add-zero s) at (along 0 (omega arith))

    pub along_next : Along p m (next a) t (suc s)
    along_next i l =
        let on : (j : ℕ) → suc j + i ≡ j + suc i = λ j. omega arith in
        rw (on a.0, on s) (along (suc i) (omega arith))

-- where the first of some sectors along a track is found
module _ (p : Params) (image : List ℕ) (m : ℕ) (a : Lba) (t : Track) (s : ℕ) (along : Along p (suc m) a t s) where
  pub along_off : (code : ℕ) → where_of p t image ≡ Off code → found p a image ≡ Fault code
  along_off code e = found_off p a image t (sym (along_first p m a t s along).0) code e

  pub along_on : (u : Track) → where_of p t image ≡ On u → found p a image ≡ sector_in u (slot_used p s (track_bytes p u image))
  along_on u e =
      let here = along_first p m a t s along in
      found_on p a image t (sym here.0) u s (sym here.1) e
