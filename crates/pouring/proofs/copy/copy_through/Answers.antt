use mathlib.Core.Path.{sym, ◌∙◌}
use borrow.Author.Rules.{rules}
use Rattle.pouring.specs.Lent.{lent}
use Rattle.pouring.proofs.Drives.{same_more}
use Rattle.pouring.proofs.Loops.{turning_none, turning_more, turning_less, last_turn, turning_all}
use Rattle.pouring.proofs.copy.copy_through.Goals as goal

pub loop-scratch-init : goal.loop-scratch-init
loop-scratch-init c = (turning_none _ _ _ _ c.requires.0 c.requires.1, search rules)

pub turn-s-requires : goal.turn-s-requires
turn-s-requires c =
    let on = c.goes_on.ensures.0 c.loop-scratch-test.true in
    (c.loop-scratch.invariant.0.under, on.0, on.1)

pub loop-scratch-smaller : goal.loop-scratch-smaller
loop-scratch-smaller c =
    let on = c.goes_on.ensures.0 c.loop-scratch-test.true in
    turning_less _ _ _ _ _ _ c.loop-scratch.invariant.0 on.0 _ _ (lent c.turn-s.new.images) c.turn-s.ensures.turned on.1

pub loop-scratch-preserved : goal.loop-scratch-preserved
loop-scratch-preserved c =
    let on = c.goes_on.ensures.0 c.loop-scratch-test.true in
    let inv = c.loop-scratch.invariant in (
      turning_more _ _ _ _ _ _ inv.0 on.0 _ _ (lent c.turn-s.new.images) c.turn-s.ensures.turned,
      same_more _ _ _ inv.1 c.turn-s.ensures.same,
    )

pub complete-requires : goal.complete-requires
complete-requires c =
    last_turn _ _ _ _ _ _ c.loop-scratch.invariant.0 (c.goes_on.ensures.1 c.loop-scratch-test.false)

pub shape_of-scratch : goal.shape_of-scratch
shape_of-scratch c =
    c.scratch-2-1.given ∙ c.loop-scratch.invariant.0.under.scratch_long ∙ sym c.requires.1

pub returns-clause-same : goal.returns-clause-same
returns-clause-same c = same_more _ _ _ c.loop-scratch.invariant.1 c.complete.ensures.same

pub returns-clause-went : goal.returns-clause-went
returns-clause-went c =
    turning_all _ _ _ _ _ _ c.loop-scratch.invariant.0 (c.goes_on.ensures.1 c.loop-scratch-test.false) _ _ c.complete.ensures.completed
