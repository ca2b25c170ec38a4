use native.Mathlib.Omega.{arith}
use Rattle.keeping.proofs.Stepping.{located_noting, stepped_none, stepped_fits, stepped_more}
use Rattle.keeping.proofs.step.keep_steps.Goals as goal

pub loop-i-init : goal.loop-i-init
loop-i-init c = stepped_none _ _ _ _ _ _

pub keep_step-requires : goal.keep_step-requires
keep_step-requires c =
    let may = c.requires.2 in (
      stepped_fits _ _ _ _ _ c.requires.0 c.requires.1 may _ _ _ c.requires.5 c.loop-i.invariant,
      may.from_in,
      may.to_in,
      c.requires.1,
      located_noting _ _ _ _ c.requires.4 may.from_in c.requires.3,
      omega (arith, c.loop-i-test.true, c.requires.5),
    )

pub loop-i-preserved : goal.loop-i-preserved
loop-i-preserved c =
    stepped_more _ _ _ _ _ c.requires.0 c.requires.1 c.requires.2 _ _ _ c.requires.5 c.loop-i.invariant _ c.requires.4 _ c.loop-i-test.true c.keep_step.ensures
