use mathlib.Core.Path.{refl}
use Rattle.checks.proofs.Orders.{judge_checked}
use Rattle.checks.proofs.order.judge.Goals as goal

pub returns : goal.returns
returns c =
    judge_checked _ _ _ _ c.requires.0 refl c.reach_of-reach.ensures.0 c.hits_of.ensures c.order.ensures
