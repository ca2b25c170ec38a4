use mathlib.Core.Path.{sym, ap, ◌∙◌}
use Rattle.model.specs.Verdicts.{as_verdict, stop_verdict}
use Rattle.checks.proofs.Views.{view_legal}
use Rattle.dispatch.proofs.Obeys.{fault_below, admitted, setting_is, obey_refused, obey_failed, obey_carried}
use Rattle.dispatch.proofs.obey.obey.Goals as goal

pub judge-requires : goal.judge-requires
judge-requires c =
    (c.row_of-row.ensures, view_legal _ _ _ _ c.view_of-view.ensures, c.requires)

pub failed-requires : goal.failed-requires
failed-requires c =
    let is = ap as_verdict c.in-Err-Fail.is ∙ ap stop_verdict c.in-Err-Fail.field-0-is in
    (c.requires.drive, c.requires.drive, rw c.in-Err-Fail.at-is (fault_below _ _ _ _ _ c.judge.ensures _ _ is c.requires.address).1)

pub carry_out-requires : goal.carry_out-requires
carry_out-requires c =
    let seen = c.view_of-view.ensures in
    let passed = admitted c.args.b c.args.given.now c.args.entry c.args.area.now c.args.image.now _ seen _ c.judge.ensures c.requires (ap as_verdict c.in-Ok.is) in (
      passed,
      sym c.row_of-row.ensures.command,
      setting_is c.args.b c.args.given.now c.args.entry c.args.area.now c.args.image.now _ seen,
    )

pub returns-in-Err-Refuse : goal.returns-in-Err-Refuse
returns-in-Err-Refuse c =
    let is = ap as_verdict c.in-Err-Refuse.is ∙ ap stop_verdict c.in-Err-Refuse.field-0-is in
    obey_refused _ _ _ _ _ _ c.view_of-view.ensures _ c.judge.ensures _ _ _ is (rw c.in-Err-Refuse.refusal-is at c.refused.ensures)

pub returns-in-Err-Fail : goal.returns-in-Err-Fail
returns-in-Err-Fail c =
    let is = ap as_verdict c.in-Err-Fail.is ∙ ap stop_verdict c.in-Err-Fail.field-0-is in
    obey_failed _ _ _ _ _ _ c.view_of-view.ensures _ c.judge.ensures _ _ _ _ is (rw (c.in-Err-Fail.code-is, c.in-Err-Fail.at-is) at c.failed.ensures)

pub returns-in-Ok : goal.returns-in-Ok
returns-in-Ok c =
    obey_carried _ _ _ _ _ _ c.view_of-view.ensures _ c.judge.ensures _ _ _ (ap as_verdict c.in-Ok.is)
    (sym c.row_of-row.ensures.command) c.carry_out.ensures
