use mathlib.Core.Path.{refl}
use borrow.Author.Rules.{rules}
use borrow.Author.Tests.{ltb-false}
use Rattle.formats.proofs.Makings.{bound_of}
use Rattle.alternates.proofs.Assigns.{first_past, alternate_past, pair_judged, before_last}
use Rattle.alternates.proofs.assign.assign_faults.Goals as goal

pub returns-then-first-gt31 : goal.returns-then-first-gt31
returns-then-first-gt31 c = first_past _ _ _ _ _ _ c.if-first-gt31.true

pub returns-then-gt : goal.returns-then-gt
returns-then-gt c =
    alternate_past _ _ _ _ _ _ c.if-first-gt31.false _ c.last_address-last.ensures (search rules)

pub state_of-one-requires : goal.state_of-one-requires
state_of-one-requires c =
    (c.requires.0, bound_of _ _ _ c.track_of-from.ensures c.requires.1)

pub state_of-other-requires : goal.state_of-other-requires
state_of-other-requires c =
    let in_drive = before_last _ c.requires.0.within _ _ c.last_address-last.ensures (ltb-false _ _ (search rules)) in
    (c.requires.0, bound_of _ _ _ c.track_of-to.ensures in_drive)

pub returns : goal.returns
returns c =
    pair_judged _ _ _ _ _ c.if-first-gt31.false _ c.last_address-last.ensures (search rules)
    _ _ c.track_of-from.ensures c.track_of-to.ensures
    _ _ c.state_of-one.ensures c.state_of-other.ensures
    _ _ _ _ _ _ _ _ c.is_moved.ensures c.is_taken.ensures c.eq.ensures c.is_taken_by_other.ensures
    c.is_moved-2.ensures c.is_bad.ensures refl c.pair_faults.ensures
