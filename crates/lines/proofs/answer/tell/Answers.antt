use Rattle.lines.proofs.AnswerTexts.{tell_written, tell_length}
use native.Mathlib.Omega.{arith}
use Rattle.lines.proofs.answer.tell.Goals as goal

pub shape_of-text : goal.shape_of-text
shape_of-text c =
    tell_length c.args.answer c.args.handed.now _ c.requires _ _ c.encode.ensures c.encode-2.ensures

pub returns : goal.returns
returns c =
    (omega arith, tell_written _ c.args.handed.now _ c.requires _ _ c.encode.ensures c.encode-2.ensures)
