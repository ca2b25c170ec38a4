-- Bounds on what the parameters give.
use Prim.Native.Nat.{◌+◌, ◌*◌, ◌≤◌, ◌<◌}
use native.Mathlib.Nat.{mul-le-mul}
use native.Mathlib.Omega.{arith}
use Rattle.base.proofs.Parts.{cell_in}
use Rattle.geometry.specs.declared.params.Params.{Params}
use Rattle.geometry.specs.declared.params.Track.{Track}
use Rattle.geometry.specs.Params.{Within, track_count, track_size}

module _ (p : Params) (w : Within p) where
  pub count_most : track_count p ≤ 7168
  count_most = mul-le-mul {n₂ = 1024} {m₂ = 7} w.cylinders_most w.heads_most

  pub count_some : 1 ≤ track_count p
  count_some = mul-le-mul {n₁ = 1} {m₁ = 1} w.cylinders_some w.heads_some

  pub sectors_most : track_count p * p.sectors ≤ 229376
  sectors_most = mul-le-mul {n₂ = 7168} {m₂ = 32} count_most w.sectors_most

  pub sectors_some : 1 ≤ track_count p * p.sectors
  sectors_some = mul-le-mul {n₁ = 1} {m₁ = 1} count_some (omega (arith, w.sectors_some))

  pub size_most : track_size p ≤ 16640
  size_most = mul-le-mul {n₂ = 32} {m₂ = 520} w.sectors_most (omega (arith, w.size_most))

  pub tracks_most : track_count p * track_size p ≤ 119275520
  tracks_most = mul-le-mul {n₂ = 7168} {m₂ = 16640} count_most size_most

  pub start_room : (t : Track) → t.0 < track_count p → t.0 * track_size p + track_size p ≤ track_count p * track_size p
  start_room t h = cell_in (track_size p) t.0 (track_count p) h
