use mathlib.Core.Path.{ap}
use native.Mathlib.Omega.{arith}
use Rattle.std.specs.Option.{unwrap_or}
use Rattle.track.specs.Search.{Note}
use Rattle.keeping.proofs.Stores.{step_leave, step_id, step_body, moved_partner, taken_partner}
use Rattle.keeping.proofs.step.keep_step.Goals as goal

pub write_id-requires : goal.write_id-requires
write_id-requires c =
    (c.requires.0, c.requires.1, moved_partner _ c.requires.0.within c.args.to c.requires.2, omega (arith, c.requires.5, c.if-copies-i.true))

pub returns-then-copies-i : goal.returns-then-copies-i
returns-then-copies-i c =
    step_leave _ c.args.from c.args.to _ _ _ _ _ c.if-copies-i.true c.write_id.ensures

pub write_id-requires-then-i-eq0 : goal.write_id-requires-then-i-eq0
write_id-requires-then-i-eq0 c =
    (c.requires.0, c.requires.2, taken_partner _ c.requires.0.within c.args.from c.requires.1, omega (arith, c.if-copies-i.false))

pub returns-then-i-eq0 : goal.returns-then-i-eq0
returns-then-i-eq0 c =
    step_id _ c.args.from c.args.to _ _ _ _ _ c.if-copies-i.false c.if-i-eq0.true c.write_id-then-i-eq0.ensures

pub returns : goal.returns
returns c =
    let there = ap (λ (o : Note). unwrap_or o 0) c.unwrap-j.ensures in
    step_body _ c.args.from c.args.to _ _ _ _ _ c.if-copies-i.false c.if-i-eq0.false (rw there c.write_body.ensures)
