use borrow.Author.Rules.{rules}
use Rattle.lines.proofs.Answers.{frame_answered}
use Rattle.lines.proofs.answer.answer_frame.Goals as goal

pub tell-requires : goal.tell-requires
tell-requires c =
    search (rules, c.execute-outcome.auto, c.requires)

pub returns-clause-says : goal.returns-clause-says
returns-clause-says c =
    frame_answered _ c.args.frame.now c.args.area.now c.execute-outcome.new.area _ _ _ _ _ _ _ _ _ _ _
    (search rules) (search rules) c.requires c.execute-outcome.auto.area c.block_length.ensures c.min-n.ensures c.min-handed.ensures
    c.execute-outcome.ensures.left c.tell.ensures
