use mathlib.Core.Path.{sym, ◌∙◌}
use mathlib.Core.Path.{refl}
use native.Mathlib.Omega.{arith}
use Rattle.sectors.proofs.ReadLoops.{front_read, reading_none, reading_room, reading_most, reading_stop, reading_whole, reading_more}
use Rattle.sectors.proofs.read.read_sectors.Goals as goal

pub returns-then-n-eq1 : goal.returns-then-n-eq1
returns-then-n-eq1 c =
    front_read _ _ c.args.a _ _ _ _ c.requires.0 c.requires.1 c.requires.2 c.if-n-eq1.true c.read_one.ensures

pub loop-i-init : goal.loop-i-init
loop-i-init c = reading_none _ _ _ _ _

pub slice_bounds-read_part-end : goal.slice_bounds-read_part-end
slice_bounds-read_part-end c =
    reading_room _ _ _ _ _ _ _ _ c.loop-i.invariant c.requires.0 c.requires.1 c.requires.2 _ (omega (arith, c.loop-i-test.true, c.sectors_here-m.ensures.2))

pub overflow_add-i : goal.overflow_add-i
overflow_add-i c =
    let most = reading_most _ _ _ _ _ _ _ _ c.loop-i.invariant c.requires.0 c.requires.1 c.requires.2 _ (omega (arith, c.loop-i-test.true, c.sectors_here-m.ensures.2))
    _ c.further-here.ensures _ _ _ refl c.read_part-part.ensures in
    omega (arith, most)

pub returns-then-is_some : goal.returns-then-is_some
returns-then-is_some c =
    reading_stop _ _ _ _ _ _ _ _ c.loop-i.invariant c.requires.0 c.requires.1 c.requires.2 _ (omega (arith, c.loop-i-test.true, c.sectors_here-m.ensures.2))
    _ c.further-here.ensures _ _ _ refl c.read_part-part.ensures (sym c.is_some.ensures ∙ c.if-is_some.true)

pub loop-i-smaller : goal.loop-i-smaller
loop-i-smaller c =
    let whole = reading_whole _ _ _ _ _ _ _ _ c.loop-i.invariant c.requires.0 c.requires.1 c.requires.2 _ (omega (arith, c.loop-i-test.true, c.sectors_here-m.ensures.2))
    _ c.further-here.ensures _ _ _ refl c.read_part-part.ensures (sym c.is_some.ensures ∙ c.if-is_some.false) in
    omega (arith, whole, c.loop-i-test.true, c.sectors_here-m.ensures.1)

pub loop-i-preserved : goal.loop-i-preserved
loop-i-preserved c =
    reading_more _ _ _ _ _ _ _ _ c.loop-i.invariant c.requires.0 c.requires.1 c.requires.2 _ (omega (arith, c.loop-i-test.true, c.sectors_here-m.ensures.2))
    _ c.further-here.ensures _ _ _ refl c.read_part-part.ensures (sym c.is_some.ensures ∙ c.if-is_some.false)
