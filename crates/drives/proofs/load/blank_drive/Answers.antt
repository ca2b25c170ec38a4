use borrow.Author.Rules.{rules}
use Rattle.model.specs.Record.{blank_drive}
use Rattle.drives.proofs.load.blank_drive.Goals as goal

pub returns : goal.returns
unfolding blank_drive
returns c = search rules
