use borrow.Author.Rules.{rules}
use Rattle.lines.proofs.Hearings.{first_is}
use Rattle.lines.proofs.talk.first_feed.Goals as goal

pub returns : goal.returns
returns c = first_is _ _ (search rules) (search rules) (search rules)
