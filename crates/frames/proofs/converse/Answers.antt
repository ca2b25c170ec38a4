use mathlib.Core.Path.{refl, ◌∙◌}
use borrow.Author.Rules.{rules}
use Rattle.pouring.proofs.Drives.{same_more}
use Rattle.frames.proofs.Going.{onward_none, onward_more, onward_cut, onward_kept, gone_on, gone_off}
use Rattle.frames.proofs.converse.Goals as goal

pub loop-init : goal.loop-init
loop-init g c = (refl, c.requires.talking, onward_none _ _ _, search rules)

pub returns-in-Err-clause-cut : goal.returns-in-Err-clause-cut
returns-in-Err-clause-cut g c = onward_kept c.loop.invariant.2 _ c.in-Err.ensures.err

pub returns-in-Err-going-clause-cut : goal.returns-in-Err-going-clause-cut
returns-in-Err-going-clause-cut g c =
    onward_cut c.loop.invariant.2 _ _ _ c.in-Ok.ensures.ok (gone_off c.in-Err-going.is c.feed-went.ensures.cut)

pub loop-preserved : goal.loop-preserved
loop-preserved g c =
    let inv = c.loop.invariant in
    let fed = c.feed-went.ensures in (
      c.read_some.auto.input ∙ inv.0,
      fed.talking_after,
      onward_more inv.2 _ _ _ c.in-Ok.ensures.ok _ (gone_on c.in_default.is fed.heard) (gone_on c.in_default.is fed.said),
      same_more _ _ _ inv.3 fed.same,
    )
