use Rattle.copies.proofs.Judges.{shared_on, shared_off}
use Rattle.copies.proofs.judge.share_test.Goals as goal

pub returns-then-shares : goal.returns-then-shares
returns-then-shares c = shared_on _ _ _ c.shares.ensures c.if-shares.true

pub returns : goal.returns
returns c = shared_off _ _ _ c.shares.ensures c.if-shares.false
