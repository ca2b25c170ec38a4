use borrow.Author.Rules.{rules}
use Rattle.base.proofs.Decide.{decide}
use Rattle.model.specs.Record.{setting_in}
use Rattle.drives.proofs.view.setting_in.Goals as goal

pub returns-then-entry : goal.returns-then-entry
unfolding setting_in
returns-then-entry c = search (rules, decide)

pub returns : goal.returns
unfolding setting_in
returns c = search (rules, decide)
