use Rattle.copies.proofs.Ends.{copies_on, can_end, copy_leaves}
use Rattle.copies.proofs.copy.copy.Goals as goal

pub copy_sectors-copied-requires : goal.copy_sectors-copied-requires
copy_sectors-copied-requires c =
    copies_on _ _ _ _ _ c.count_of.ensures.0 c.requires c.count_of.ensures.1

pub finish_copy-requires : goal.finish_copy-requires
finish_copy-requires c =
    can_end _ _ _ _ c.requires _ _ _ _ _ c.count_of.ensures.0 c.copy_sectors-copied.ensures.copied

pub returns-clause-left : goal.returns-clause-left
returns-clause-left c =
    copy_leaves _ _ _ _ c.requires _ _ _ _ _ _ _ c.count_of.ensures.0 c.copy_sectors-copied.ensures.copied c.finish_copy.ensures
