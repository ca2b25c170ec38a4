use native.Mathlib.Omega.{arith}
use Rattle.pouring.specs.Lent.{lent}
use Rattle.engine.proofs.Executes.{on_image}
use Rattle.engine.proofs.run.on_images.Goals as goal

pub returns-in-0-clause-left : goal.returns-in-0-clause-left
returns-in-0-clause-left c =
    on_image c.args.b c.args.given.now c.args.entry c.args.buffer.now c.args.area.now (lent c.args.images.now) _ _ _ _ 0
    c.in-0.is c.obey.ensures

pub returns-in-1-clause-left : goal.returns-in-1-clause-left
returns-in-1-clause-left c =
    on_image c.args.b c.args.given.now c.args.entry c.args.buffer.now c.args.area.now (lent c.args.images.now) _ _ _ _ 1
    c.in-1.is c.obey-in-1.ensures

pub returns-in-2-clause-left : goal.returns-in-2-clause-left
returns-in-2-clause-left c =
    on_image c.args.b c.args.given.now c.args.entry c.args.buffer.now c.args.area.now (lent c.args.images.now) _ _ _ _ 2
    c.in-2.is c.obey-in-2.ensures

pub returns-in_default-clause-left : goal.returns-in_default-clause-left
returns-in_default-clause-left c =
    on_image c.args.b c.args.given.now c.args.entry c.args.buffer.now c.args.area.now (lent c.args.images.now) _ _ _ _ 3
    (omega (arith, c.requires.drive, c.in_default)) c.obey-in_default.ensures
