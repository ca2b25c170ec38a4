use native.Mathlib.Omega.{arith}
use Rattle.base.proofs.Firsts.{sought_none}
use Rattle.keeping.proofs.Notes.{has_miss, has_more, has_all}
use Rattle.keeping.proofs.slots.each_noted.Goals as goal

pub loop-s-init : goal.loop-s-init
loop-s-init c = sought_none _ _

pub returns-then-is_none : goal.returns-then-is_none
returns-then-is_none c = has_miss c.args.slots.now _ _ c.loop-s.invariant (omega arith) c.if-is_none.ensures

pub loop-s-preserved : goal.loop-s-preserved
loop-s-preserved c = has_more c.args.slots.now _ _ c.loop-s.invariant (omega arith) c.if-is_none.ensures

pub returns : goal.returns
returns c = has_all c.args.slots.now _ _ c.loop-s.invariant (omega arith)
