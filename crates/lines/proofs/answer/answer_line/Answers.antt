use mathlib.Core.Path.{sym, ◌∙◌}
use Rattle.pouring.specs.Lent.{lent}
use Rattle.lines.proofs.Answers.{bad_answered, half_answered, line_reset, line_frame}
use Rattle.lines.proofs.answer.answer_line.Goals as goal

pub returns-then-line-clause-says : goal.returns-then-line-clause-says
returns-then-line-clause-says c =
    let answered = c.answer_bad in
    bad_answered _ c.args.line _ _ _ answered.result _ answered.new.text answered.ensures c.if-line.true

pub returns-then-is_some-clause-says : goal.returns-then-is_some-clause-says
returns-then-is_some-clause-says c =
    let answered = c.answer_bad-then-is_some in
    half_answered _ c.args.line _ _ _ answered.result _ answered.new.text answered.ensures (sym c.is_some.ensures ∙ c.if-is_some.true)

pub returns-then-is_reset-clause-says : goal.returns-then-is_reset-clause-says
returns-then-is_reset-clause-says c =
    let answered = c.answer_reset in
    line_reset _ c.args.line c.args.bytes.now _ _ c.if-line.false (sym c.is_some.ensures ∙ c.if-is_some.false)
    _ c.is_reset.ensures answered.result _ _ c.if-is_reset.true answered.ensures

pub returns-clause-says : goal.returns-clause-says
returns-clause-says c =
    let left = c.answer_frame.new in
    let images = lent left.images in
    line_frame _ c.args.line c.args.bytes.now _ _ c.if-line.false (sym c.is_some.ensures ∙ c.if-is_some.false)
    _ c.is_reset.ensures c.answer_frame.result _ _ _ images c.if-is_reset.false c.answer_frame.ensures.says
