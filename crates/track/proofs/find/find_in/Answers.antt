use native.Mathlib.Omega.{arith}
use Rattle.base.proofs.Firsts.{sought_none}
use Rattle.track.proofs.Seeks.{seeking_more, seeking_hit, seeking_all}
use Rattle.track.proofs.find.find_in.Goals as goal

pub loop-k-init : goal.loop-k-init
loop-k-init c = sought_none _ _

pub returns-then-holds : goal.returns-then-holds
returns-then-holds c =
    seeking_hit _ _ _ _ c.loop-k.invariant c.loop-k-test.true _ c.id.ensures.0 _ c.holds.ensures _ c.if-holds.true

pub loop-k-preserved : goal.loop-k-preserved
loop-k-preserved c =
    seeking_more _ _ _ _ c.loop-k.invariant c.loop-k-test.true _ c.id.ensures.0 _ c.holds.ensures c.if-holds.false

pub returns : goal.returns
returns c = seeking_all _ _ _ _ c.loop-k.invariant _ (omega arith)
