use Rattle.lines.proofs.Hearings.{line_answered}
use Rattle.lines.proofs.talk.answer.Goals as goal

pub returns-clause-speaks : goal.returns-clause-speaks
returns-clause-speaks c =
    let answered = c.answer_line-told in
    line_answered c.args.session _ _ _ _ _ _ _ answered.result _ c.args.taken answered.ensures.says c.start.ensures
