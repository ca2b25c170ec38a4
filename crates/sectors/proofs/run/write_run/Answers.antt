use mathlib.Core.Path.{◌∙◌}
use native.Mathlib.Omega.{arith}
use lib.ListN.{length-take, length-drop}
use Rattle.sectors.proofs.WriteRun.{writing_none, writing_noted, writing_room, writing_all, writing_stop, writing_slot, writing_more}
use Rattle.sectors.proofs.run.write_run.Goals as goal

pub loop-sector-init : goal.loop-sector-init
loop-sector-init c = writing_none _ _ _ _ _

pub look_for-looked-requires : goal.look_for-looked-requires
look_for-looked-requires c =
    let w = c.loop-sector.invariant in
    (w.upto.long, w.upto.seen, omega (arith, c.requires.2), writing_noted _ _ _ _ _ _ _ _ _ _ w)

pub returns-in_default : goal.returns-in_default
returns-in_default c =
    writing_stop _ _ _ _ _ _ _ _ _ _ c.loop-sector.invariant c.requires c.loop-sector-test.true
    _ _ c.look_for-looked.ensures c.in_default.is

pub write_data-requires : goal.write_data-requires
write_data-requires c = (
  c.requires.0,
  c.loop-sector.invariant.len ∙ c.requires.1,
  writing_slot _ _ _ _ _ _ _ _ _ _ c.loop-sector.invariant c.requires c.loop-sector-test.true _ _ c.look_for-looked.ensures _ c.in-Some.is,
  simp (length-take, length-drop) (omega (arith, writing_room _ _ _ _ _ _ _ _ _ _ c.loop-sector.invariant c.requires c.loop-sector-test.true)),
)

pub loop-sector-preserved : goal.loop-sector-preserved
loop-sector-preserved c =
    writing_more _ _ _ _ _ _ _ _ _ _ c.loop-sector.invariant c.requires c.loop-sector-test.true
    _ _ c.look_for-looked.ensures _ c.in-Some.is _ c.write_data.ensures

pub returns : goal.returns
returns c = writing_all _ _ _ _ _ _ _ _ _ _ c.loop-sector.invariant c.loop-sector-test.false
