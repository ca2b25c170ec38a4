use Rattle.formats.proofs.FormatEnds.{drive_fails, drive_well}
use Rattle.formats.proofs.format.format_drive.Goals as goal

pub returns-then-splits_pair : goal.returns-then-splits_pair
returns-then-splits_pair c =
    drive_fails _ _ _ _ _ _ c.track_of.ensures _ _ c.splits_pair.ensures c.if-splits_pair.true c.failed.ensures

pub returns : goal.returns
returns c =
    drive_well _ _ _ _ _ _ c.track_of.ensures _ _ c.splits_pair.ensures _ _ _ c.if-splits_pair.false
    c.fill_of-fill.ensures.0 c.make_drive.ensures c.end_pending.ensures c.good.ensures
