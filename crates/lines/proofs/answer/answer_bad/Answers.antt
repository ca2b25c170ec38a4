use borrow.Author.Rules.{rules}
use Rattle.lines.proofs.AnswerTexts.{bad_written}
use mathlib.Core.Path.{refl}
use lib.ListN.{length-set}
use Rattle.lines.proofs.answer.answer_bad.Goals as goal

pub bounds-text-1 : goal.bounds-text-1
bounds-text-1 c = simp length-set (search rules)

pub returns : goal.returns
returns c = (refl, refl, bad_written c.args.text.now c.requires)
