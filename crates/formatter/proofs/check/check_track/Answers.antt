use mathlib.Core.Path.{refl}
use Rattle.std.proofs.lemmas.Result.{err_from_is_err_and}
use Rattle.track.specs.Find.{On}
use Prim.Native.Nat.{◌<◌}
use native.Mathlib.Omega.{arith}
use Rattle.geometry.proofs.Sizes.{count_most}
use Rattle.track.proofs.Laws.{where_in}
use Rattle.formatter.proofs.IdChecks.{check_off, check_well, check_ill, home_partner, home_sector}
use Rattle.formatter.proofs.check.check_track.Goals as goal

pub track_of-requires : goal.track_of-requires
track_of-requires c = (c.requires.0, where_in _ _ _ (On c.in_ok-u.u) c.in_ok-u.ensures c.requires.1 _ refl)

pub id_for-id-requires : goal.id_for-id-requires
id_for-id-requires c = (c.requires.0.within, where_in _ _ _ (On c.in_ok-u.u) c.in_ok-u.ensures c.requires.1 _ refl)

pub ids_are-requires : goal.ids_are-requires
ids_are-requires c =
    let h : c.args.t.0 < 65536 = omega (arith, count_most _ c.requires.0.within, c.requires.1) in
    (rw c.track_of.ensures.0 c.requires.2, home_partner _ _ _ _ _ _ h c.home_state.ensures c.id_for-id.ensures, home_sector _ _ _ _ c.id_for-id.ensures)

pub returns-in_err-u : goal.returns-in_err-u
returns-in_err-u c =
    let p = err_from_is_err_and c.from_residual.result c.from_residual.ensures.1 in
    rw (p.1, p.2) (check_off _ _ _ _ _ c.in_err-u.ensures _ refl)

pub returns-then-ids_are : goal.returns-then-ids_are
returns-then-ids_are c = check_well _ _ _ _ (On c.in_ok-u.u) c.in_ok-u.ensures _ refl _ _ _ c.home_state.ensures c.id_for-id.ensures (rw (c.track_of.ensures.0, c.track_of.ensures.1) at c.ids_are.ensures) c.if-ids_are.true

pub returns-else-ids_are : goal.returns-else-ids_are
returns-else-ids_are c = check_ill _ _ _ _ (On c.in_ok-u.u) c.in_ok-u.ensures _ refl _ _ _ c.home_state.ensures c.id_for-id.ensures (rw (c.track_of.ensures.0, c.track_of.ensures.1) at c.ids_are.ensures) c.if-ids_are.false
