-- An address of the drive is on one of its tracks, in one of its sectors; tracks of one number are one, and so are addresses.
use Prim.Native.Nat.{ℕ, suc, ◌<◌}
use mathlib.Core.Path.{◌≡◌, ap}
use native.Mathlib.Omega.{arith}
use native.Mathlib.Nat.{div-lt_iff_lt-mul, mod-lt}
use Rattle.geometry.specs.declared.params.Lba.{Lba}
use Rattle.geometry.specs.declared.params.Track.{Track}
use Rattle.geometry.specs.declared.params.Params.{Params}
use Rattle.geometry.specs.Params.{Within, track_count, track_of, sector_of, OnDrive, further, next}

module _ (p : Params) (w : Within p) (a : Lba) where
  pub track_in : OnDrive p a → (track_of p a).0 < track_count p
  track_in h = let some : 0 < p.sectors = omega (arith, w.sectors_some) in (div-lt_iff_lt-mul some).1 h

  -- and the other way
  pub track_of_drive : (track_of p a).0 < track_count p → OnDrive p a
  track_of_drive h = let some : 0 < p.sectors = omega (arith, w.sectors_some) in (div-lt_iff_lt-mul some).0 h

  pub sector_in_lem : sector_of p a < p.sectors
  sector_in_lem = mod-lt a.0 (omega (arith, w.sectors_some))

pub same_track : (t v : Track) → t.0 ≡ v.0 → t ≡ v
same_track t v e = ap (λ (k : ℕ). record { 0 = k }) e

pub same_lba : (a b : Lba) → a.0 ≡ b.0 → a ≡ b
same_lba a b e = ap (λ (k : ℕ). record { 0 = k }) e

-- addresses one after the other
pub further_next : (a : Lba) (i : ℕ) → further (next a) i ≡ further a (suc i)
further_next a i = same_lba (further (next a) i) (further a (suc i)) (omega arith)
