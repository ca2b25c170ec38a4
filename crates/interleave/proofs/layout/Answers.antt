use native.Mathlib.Omega.{arith}
use mathlib.Core.Path.{ap, ◌∙◌}
use Rattle.interleave.specs.Layout.{empty_from}
use Rattle.interleave.proofs.Layouts.{filled_first, filled_next, filled_last}
use Rattle.interleave.proofs.layout.Goals as goal

pub loop-s-init : goal.loop-s-init
loop-s-init c = filled_first _ _ (omega arith) (omega arith)

pub loop-s-preserved : goal.loop-s-preserved
loop-s-preserved c =
    let l = c.loop-s in
    filled_next _ _ l.s l.map l.slot _ (omega arith) (omega arith) l.invariant (c.next_empty-slot.ensures.0 ∙ ap (empty_from _ _ _) c.wrapped.ensures)

pub returns : goal.returns
returns c = filled_last _ _ _ _ _ (omega arith) c.loop-s.invariant
