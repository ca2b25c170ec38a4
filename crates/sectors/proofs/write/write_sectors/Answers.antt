use mathlib.Core.Path.{sym, ◌∙◌}
use mathlib.Core.Path.{◌≡◌}
use native.Mathlib.Omega.{arith}
use lib.ListN.{length}
use Rattle.sectors.proofs.WriteLoops.{front_written, written_most, written_all}
use Rattle.sectors.proofs.WriteLoops.{writing_none, writing_room, writing_stop, writing_more}
use borrow.Author.Rules.{rules}
use Rattle.sectors.proofs.write.write_sectors.Goals as goal

pub returns-then-n-eq1 : goal.returns-then-n-eq1
returns-then-n-eq1 c =
    front_written _ _ c.args.a _ _ _ _ c.if-n-eq1.true c.write_one.ensures

pub loop-i-init : goal.loop-i-init
loop-i-init c = writing_none _ _ _ _ _

pub slice_bounds-write_part-end : goal.slice_bounds-write_part-end
slice_bounds-write_part-end c =
    writing_room _ _ _ _ _ _ _ _ c.loop-i.invariant _ c.sectors_here-m.ensures.2 c.requires.2

pub overflow_add-i : goal.overflow_add-i
overflow_add-i c =
    omega (arith, written_most _ _ _ _ _ _ _ c.write_part-part.ensures, c.sectors_here-m.ensures.2, c.loop-i-test.true)

pub returns-then-is_some : goal.returns-then-is_some
returns-then-is_some c =
    writing_stop _ _ _ _ _ _ _ _ c.loop-i.invariant _ c.sectors_here-m.ensures.2 _ c.further-here.ensures _ _ c.write_part-part.ensures (sym c.is_some.ensures ∙ c.if-is_some.true)

pub loop-i-smaller : goal.loop-i-smaller
loop-i-smaller c =
    let all = written_all _ _ _ _ _ _ _ c.write_part-part.ensures (sym c.is_some.ensures ∙ c.if-is_some.false) in
    omega (arith, all, c.sectors_here-m.ensures.1, c.loop-i-test.true)

pub loop-i-preserved : goal.loop-i-preserved
loop-i-preserved c =
    let long : length c.write_part-part.new.image ≡ length c.loop-i.image = search rules in
    writing_more _ _ _ _ _ _ _ _ c.loop-i.invariant _ c.sectors_here-m.ensures.2 _ c.further-here.ensures _ _ c.write_part-part.ensures (sym c.is_some.ensures ∙ c.if-is_some.false) long
