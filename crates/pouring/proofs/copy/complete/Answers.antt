use Rattle.pouring.proofs.CopyEnds.{none_waits, last_on, last_given, done_few, completed_to}
use Rattle.pouring.proofs.copy.complete.Goals as goal

pub returns-then-held-eq0-clause-completed : goal.returns-then-held-eq0-clause-completed
returns-then-held-eq0-clause-completed c = none_waits _ _ _ _ c.requires c.if-held-eq0.true

pub store_sectors-target-requires : goal.store_sectors-target-requires
store_sectors-target-requires c =
    let some = c.if-held-eq0.false in (
      c.requires.under.target_there,
      c.requires.under.fitting.target_fits,
      last_on _ _ _ _ c.requires some,
      last_given _ _ _ _ c.requires some _ (c.fill.ensures.after (λ y e. e)),
    )

pub ended_by-requires : goal.ended_by-requires
ended_by-requires c = done_few _ _ _ _ c.requires c.if-held-eq0.false _ (c.fill.ensures.after (λ y e. e)) _ _ c.store_sectors-target.ensures.stored

pub returns-clause-completed : goal.returns-clause-completed
returns-clause-completed c =
    completed_to _ _ _ _ c.requires c.if-held-eq0.false _ (c.fill.ensures.after (λ y e. e)) _ _ c.store_sectors-target.ensures.stored _ c.ended_by.ensures
