use mathlib.Core.Path.{ap}
use Rattle.track.specs.Find.{as_sector}
use Prim.Native.Nat.{◌-◌, ◌<◌}
use mathlib.Core.Path.{◌≡◌}
use lib.ListN.{length, take, drop}
use Rattle.geometry.specs.Params.{track_count, track_size}
use Rattle.geometry.proofs.Addresses.{sector_in_lem}
use Rattle.sectors.proofs.Founds.{track_below}
use Rattle.sectors.proofs.Ones.{one_there, one_lent, write_missing, write_found}
use Rattle.sectors.proofs.write.write_one.Goals as goal

pub find_sector-requires : goal.find_sector-requires
find_sector-requires c =
    let sector = sector_in_lem _ c.requires.0.within c.args.a in
    (c.requires.0, track_below _ c.args.a _ c.requires.0.within c.requires.1 c.track_of.ensures, rw c.sector_of.ensures sector)

pub stretch-stretch-requires : goal.stretch-stretch-requires
stretch-stretch-requires c = (
  c.requires.0.within,
  (let there : (c.in-Ok.found.track.0 < track_count c.args.p) × (c.in-Ok.found.slot < c.args.p.sectors) =
      one_there _ c.args.a _ _ _ _ c.track_of.ensures c.sector_of.ensures c.find_sector.ensures c.requires.0 c.requires.1 _ _ (ap as_sector c.in-Ok.is) in there).0,
)

pub write_data-requires : goal.write_data-requires
write_data-requires c = (
  c.requires.0.within,
  (let lent : length (take (c.stretch-stretch.result.end - c.stretch-stretch.result.start) (drop c.stretch-stretch.result.start c.args.image.now))
      ≡ track_size c.args.p =
      one_lent _ c.args.a _ _ _ _ c.track_of.ensures c.sector_of.ensures c.find_sector.ensures c.requires.0 c.requires.1 _ _ (ap as_sector c.in-Ok.is) _ _ c.stretch-stretch.ensures.0 c.stretch-stretch.ensures.1 in lent),
  (let there : (c.in-Ok.found.track.0 < track_count c.args.p) × (c.in-Ok.found.slot < c.args.p.sectors) =
      one_there _ c.args.a _ _ _ _ c.track_of.ensures c.sector_of.ensures c.find_sector.ensures c.requires.0 c.requires.1 _ _ (ap as_sector c.in-Ok.is) in there).1,
  c.requires.2,
)

pub returns-in-Err : goal.returns-in-Err
returns-in-Err c =
    write_missing _ c.args.a _ _ _ _ c.track_of.ensures c.sector_of.ensures c.find_sector.ensures _ _ (ap as_sector c.in-Err.is)

pub returns-in-Ok : goal.returns-in-Ok
returns-in-Ok c =
    write_found _ c.args.a _ _ _ _ c.track_of.ensures c.sector_of.ensures c.find_sector.ensures c.requires.0 c.requires.1
    _ _ (ap as_sector c.in-Ok.is) _ _ c.stretch-stretch.ensures.0 c.stretch-stretch.ensures.1
    _ _ c.requires.2 c.write_data.ensures
