use mathlib.Core.Path.{sym, ap, ◌∙◌}
use Prim.Native.Nat.{◌<◌}
use native.Mathlib.Omega.{arith}
use lib.ListN.{get_or}
use Rattle.model.specs.Premises.{address_limit}
use Rattle.formats.proofs.Makings.{bound_of}
use Rattle.alternates.specs.Faults.{fault_verdict}
use Rattle.alternates.proofs.Assigns.{passed_in, fault_below, alternate_below, assign_fails, assign_keeps, assign_formats}
use Rattle.alternates.proofs.assign.assign_alternate.Goals as goal

pub failed-requires : goal.failed-requires
failed-requires c =
    let h₁ : get_or c.args.given.now 1 0 < 256 = omega (arith, c.type_inv.given 1) in
    let h₂ : get_or c.args.given.now 2 0 < 256 = omega (arith, c.type_inv.given 2) in
    let below = alternate_below _ _ c.alternate_of-alternate.ensures h₁ h₂ in
    let fault = fault_below _ _ _ _ _ _ c.assign_faults.ensures address_limit c.requires.0.block.address below _ _ (ap fault_verdict c.in-Err.is) in
    (c.requires.0.block.drive, c.requires.0.block.drive, fault.1)

pub returns-in-Err : goal.returns-in-Err
returns-in-Err c =
    assign_fails _ _ _ _ _ _ _ _ c.alternate_of-alternate.ensures _ c.assign_faults.ensures
    _ _ (ap fault_verdict c.in-Err.is) c.failed.ensures

pub returns-then-keeps_contents : goal.returns-then-keeps_contents
returns-then-keeps_contents c =
    assign_keeps _ _ _ _ _ _ _ _ c.alternate_of-alternate.ensures _ c.assign_faults.ensures
    (ap fault_verdict c.in_default.is) _ (sym c.keeps_contents.ensures ∙ c.if-keeps_contents.true) c.assign_kept.ensures

pub assign_formatted-requires : goal.assign_formatted-requires
assign_formatted-requires c =
    let in_drive = passed_in _ _ _ _ _ _ c.assign_faults.ensures c.requires.0.fits (ap fault_verdict c.in_default.is) in
    (c.requires.0, bound_of _ _ _ c.track_of.ensures in_drive)

pub returns : goal.returns
returns c =
    assign_formats _ _ _ _ _ _ _ _ c.alternate_of-alternate.ensures _ c.assign_faults.ensures
    (ap fault_verdict c.in_default.is) _ (sym c.keeps_contents.ensures ∙ c.if-keeps_contents.false) _ c.track_of.ensures c.assign_formatted.ensures
