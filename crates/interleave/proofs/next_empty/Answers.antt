use native.Mathlib.Omega.{arith}
use mathlib.Core.Path.{sym, ◌∙◌}
use Rattle.interleave.proofs.Layouts.{wrapped_lt, look_here, look_on, look_none}
use Rattle.interleave.proofs.next_empty.Goals as goal

pub returns-then-from-n : goal.returns-then-from-n
returns-then-from-n c =
    let l = c.loop in
    (sym (look_here _ _ l.slot _ (omega arith) (omega arith)) ∙ l.invariant.1, l.invariant.0)

pub loop-preserved : goal.loop-preserved
loop-preserved c =
    let l = c.loop in (
      wrapped_lt _ _ _ (omega arith) c.wrapped-slot.ensures,
      look_on _ _ l.slot _ _ _ (omega arith) c.wrapped-slot.ensures (λ e. omega arith) ∙ l.invariant.1,
    )

pub returns : goal.returns
returns c =
    let l = c.loop in
    (sym (look_none _ _ l.slot _ (omega arith)) ∙ l.invariant.1, l.invariant.0)
