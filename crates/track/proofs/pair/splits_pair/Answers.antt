use native.Mathlib.Omega.{arith}
use Rattle.track.proofs.Pairs.{whole_none, whole_more, whole_hit, whole_all}
use Rattle.track.proofs.pair.splits_pair.Goals as goal

pub loop-t-init : goal.loop-t-init
loop-t-init c = whole_none _ _ _

pub returns-then-splits_at : goal.returns-then-splits_at
returns-then-splits_at c =
    whole_hit _ _ _ _ c.loop-t.invariant _ (rw c.numbered.ensures at c.splits_at.ensures) (omega arith) c.if-splits_at.true

pub loop-t-preserved : goal.loop-t-preserved
loop-t-preserved c = whole_more _ _ _ _ c.loop-t.invariant _ (rw c.numbered.ensures at c.splits_at.ensures) (omega arith) c.if-splits_at.false

pub returns : goal.returns
returns c = whole_all _ _ _ _ c.loop-t.invariant (omega arith)
