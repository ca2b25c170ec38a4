use Rattle.dispatch.proofs.Carries.{arm_carries}
use Rattle.dispatch.proofs.groups.do_arm.Goals as goal

pub returns : goal.returns
returns c = arm_carries _ _ _ _ c.good.ensures
