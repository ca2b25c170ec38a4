use Rattle.lines.proofs.Standing.{stands, text_room}
use Rattle.lines.proofs.Hearings.{close_line, close_quiet}
use Rattle.lines.proofs.talk.close.Goals as goal

pub answer-requires : goal.answer-requires
answer-requires c = (text_room _ c.requires.talking c.requires.text_length_in_bounds, (stands c.requires.talking).room)

pub returns-then-is_begun-clause-speaks : goal.returns-then-is_begun-clause-speaks
returns-then-is_begun-clause-speaks c =
    let answered = c.answer in
    close_line c.args.session _ _ _ _ _ c.is_begun.ensures c.if-is_begun.true answered.result _ _ _ answered.ensures.speaks

pub returns-clause-speaks : goal.returns-clause-speaks
returns-clause-speaks c = close_quiet _ _ _ _ _ _ c.is_begun.ensures c.if-is_begun.false
