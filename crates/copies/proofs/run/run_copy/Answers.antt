use mathlib.Core.Path.{refl, ap, ◌∙◌}
use lib.ListN.{get_or}
use Rattle.model.specs.Record.{blank_drive}
use Rattle.copies.proofs.Runs.{two_drives, copy_left_lem}
use Rattle.copies.proofs.run.run_copy.Goals as goal

pub returns-then-to-from-clause-ran : goal.returns-then-to-from-clause-ran
returns-then-to-from-clause-ran c =
    let e = c.drive_at-entry.ensures in
    copy_left_lem _ _ _ _ _ (e ∙ ap (λ d. get_or c.args.drives d blank_drive) c.if-to-from.true) e _ c.obey_copy.ensures.left _ refl

pub obey_copy-requires-2 : goal.obey_copy-requires-2
obey_copy-requires-2 c =
    two_drives c.args.drives _ _ _ c.requires c.drive_at-source.ensures c.drive_at-target.ensures

pub returns-clause-ran : goal.returns-clause-ran
returns-clause-ran c = copy_left_lem _ _ _ _ _ c.drive_at-source.ensures c.drive_at-target.ensures _ c.obey_copy-2.ensures.left _ refl
