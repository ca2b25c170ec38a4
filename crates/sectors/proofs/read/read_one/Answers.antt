use mathlib.Core.Path.{ap, sym, ◌∙◌}
use Rattle.geometry.specs.declared.params.Params.{Params}
use Rattle.track.specs.Find.{as_sector}
use Rattle.geometry.proofs.Addresses.{sector_in_lem}
use Rattle.sectors.proofs.Founds.{track_below}
use Rattle.sectors.proofs.Ones.{one_there, read_missing, read_found}
use Rattle.sectors.proofs.read.read_one.Goals as goal

pub find_sector-requires : goal.find_sector-requires
find_sector-requires c =
    let sector = sector_in_lem _ c.requires.0.within c.args.a in
    (c.requires.0, track_below _ c.args.a _ c.requires.0.within c.requires.1 c.track_of.ensures, rw c.sector_of.ensures sector)

pub track_of-track-requires : goal.track_of-track-requires
track_of-track-requires c =
    (c.requires.0, (one_there _ c.args.a _ _ _ _ c.track_of.ensures c.sector_of.ensures c.find_sector.ensures c.requires.0 c.requires.1 _ _ (ap as_sector c.in-Ok.is)).0)

pub data-requires : goal.data-requires
data-requires c =
    rw c.track_of-track.ensures.0 (one_there _ c.args.a _ _ _ _ c.track_of.ensures c.sector_of.ensures c.find_sector.ensures c.requires.0 c.requires.1 _ _ (ap as_sector c.in-Ok.is)).1

pub move_bytes-requires : goal.move_bytes-requires
move_bytes-requires c = c.requires.2 ∙ sym (c.data.ensures.1 ∙ ap (λ (q : Params). q.size) c.track_of-track.ensures.0)

pub returns-in-Err : goal.returns-in-Err
returns-in-Err c =
    read_missing _ c.args.a _ _ _ _ c.track_of.ensures c.sector_of.ensures c.find_sector.ensures _ _ (ap as_sector c.in-Err.is)

pub returns-in-Ok : goal.returns-in-Ok
returns-in-Ok c =
    read_found _ c.args.a _ _ _ _ c.track_of.ensures c.sector_of.ensures c.find_sector.ensures c.requires.0 c.requires.1
    _ _ (ap as_sector c.in-Ok.is) _ _ _ (rw (c.track_of-track.ensures.0, c.track_of-track.ensures.1) at c.data.ensures.0) c.requires.2 c.move_bytes.ensures
