use mathlib.Core.Path.{◌≡◌, sym}
use native.Mathlib.Omega.{arith}
use Rattle.track.proofs.Notes.{found_noted, none_is, looking_hit, looking_more, looking_all}
use Rattle.track.proofs.search.look_for.Goals as goal

pub returns-then-is_some : goal.returns-then-is_some
returns-then-is_some c =
    let pre = c.requires in
    found_noted _ _ _ _ _ pre.0 pre.1 pre.3 (omega arith) (sym c.if-is_some.ensures)

pub loop-k-init : goal.loop-k-init
loop-k-init c =
    let pre = c.requires in
    record { looked = record { most = pre.1; long = pre.0; notes = pre.3 }; none = none_is _ (sym c.if-is_some.ensures) }

pub returns-then-holds : goal.returns-then-holds
returns-then-holds c =
    looking_hit _ _ _ _ _ c.loop-k.invariant (omega arith) c.loop-k-test.true c.args.track.within.sectors_most _ c.id-id.ensures.0 _ c.holds.ensures c.if-holds.true

pub loop-k-preserved : goal.loop-k-preserved
loop-k-preserved c =
    looking_more _ _ _ _ _ c.loop-k.invariant (omega arith) c.loop-k-test.true c.args.track.within.sectors_most _ c.id-id.ensures.0 _ c.holds.ensures _ c.note.ensures c.if-holds.false

pub returns : goal.returns
returns c =
    let last : c.loop-k.k ≡ c.args.track.p.sectors = omega (arith, c.loop-k-test.false, c.loop-k.invariant.looked.most) in
    rw last at (looking_all _ _ _ _ _ c.loop-k.invariant (omega arith) c.loop-k-test.false)
