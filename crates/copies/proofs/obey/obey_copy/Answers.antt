use mathlib.Core.Path.{refl, ap}
use Prim.Native.Nat.{◌<◌}
use native.Mathlib.Omega.{arith}
use Rattle.model.specs.Verdicts.{stop_verdict}
use Rattle.checks.proofs.Views.{view_legal, view_at_least_128}
use Rattle.copies.proofs.Obeys.{copy_below, copyable, copy_refused, copy_failed, copy_carried}
use Rattle.copies.proofs.obey.obey_copy.Goals as goal

pub judge_copy-requires : goal.judge_copy-requires
judge_copy-requires c =
    let v = c.view_on-v.ensures in
    let w = c.view_on-w.ensures in
    (c.requires.from, c.requires.to, view_legal _ _ _ _ v, view_legal _ _ _ _ w, view_at_least_128 _ _ _ _ w, c.requires.from_copy, c.requires.to_copy)

pub failed-requires : goal.failed-requires
failed-requires c =
    let fits = copy_below _ _ _ c.requires.from c.requires.to _ c.in-Err.ensures _ _ (ap stop_verdict c.in-Fail.is) in
    (c.requires.from.drive, fits.0, fits.2)

pub copy_with-requires : goal.copy_with-requires
copy_with-requires c =
    let few : c.args.k.from.extra < 256 = omega arith in
    copyable _ _ _ _ c.requires few _ _ c.view_on-v.ensures c.view_on-w.ensures _ c.in-Ok.ensures refl

pub returns-in-Refuse-clause-left : goal.returns-in-Refuse-clause-left
returns-in-Refuse-clause-left c =
    let few : c.args.k.from.extra < 256 = omega arith in
    copy_refused _ _ _ _ c.requires few _ _ c.view_on-v.ensures c.view_on-w.ensures _ c.in-Err.ensures _ _ _ (ap stop_verdict c.in-Refuse.is) c.refused.ensures

pub returns-in-Fail-clause-left : goal.returns-in-Fail-clause-left
returns-in-Fail-clause-left c =
    let few : c.args.k.from.extra < 256 = omega arith in
    copy_failed _ _ _ _ c.requires few _ _ c.view_on-v.ensures c.view_on-w.ensures _ c.in-Err.ensures _ _ _ _ (ap stop_verdict c.in-Fail.is) c.failed.ensures

pub returns-in-Ok-clause-left : goal.returns-in-Ok-clause-left
returns-in-Ok-clause-left c =
    let few : c.args.k.from.extra < 256 = omega arith in
    copy_carried _ _ _ _ c.requires few _ _ c.view_on-v.ensures c.view_on-w.ensures _ c.in-Ok.ensures _ _ refl c.copy_with.ensures.left
