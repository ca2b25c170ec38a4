use mathlib.Core.Path.{ap}
use Rattle.track.specs.Find.{as_where}
use mathlib.Core.Path.{sym, ◌∙◌}
use Rattle.track.proofs.Laws.{where_in}
use Rattle.sectors.proofs.Founds.{track_below}
use Rattle.sectors.proofs.WriteParts.{part_off, part_on}
use Rattle.sectors.proofs.write.write_part.Goals as goal

pub where_is-requires : goal.where_is-requires
where_is-requires c =
    (c.requires.0, track_below _ c.args.a _ c.requires.0.within c.requires.1 c.track_of.ensures)

pub stretch-stretch-requires : goal.stretch-stretch-requires
stretch-stretch-requires c =
    let t = track_below _ c.args.a _ c.requires.0.within c.requires.1 c.track_of.ensures in
    (c.requires.0.within, where_in _ _ _ _ c.where_is.ensures t _ (ap as_where c.in-Ok.is))

pub returns-in-Err : goal.returns-in-Err
returns-in-Err c =
    part_off _ c.args.a _ _ _ c.track_of.ensures _ _ (sym c.where_is.ensures ∙ (ap as_where c.in-Err.is)) c.requires.2

pub returns-in-Ok : goal.returns-in-Ok
returns-in-Ok c =
    part_on _ c.args.a _ _ _ c.track_of.ensures c.requires.0 c.requires.1
    _ (sym c.where_is.ensures ∙ (ap as_where c.in-Ok.is))
    _ _ c.sector_of-first.ensures (rw (← c.sector_of-first.ensures) at c.requires.3) c.requires.4
    _ _ _ _ _ c.stretch-stretch.ensures.0 c.stretch-stretch.ensures.1 c.write_run.ensures c.done_of.ensures
