use borrow.Author.Rules.{rules}
use mathlib.Core.Path.{◌≡◌}
use mathlib.Core.Bool.{not}
use Rattle.geometry.specs.Medium.{is_floppy}
use Rattle.formats.proofs.Makings.{fill_taken, fill_plain}
use Rattle.formats.proofs.making.fill_of.Goals as goal

pub returns-then-from_buffer-ne : goal.returns-then-from_buffer-ne
unfolding is_floppy
returns-then-from_buffer-ne c =
    let other : c.ne.result ≡ not (is_floppy c.medium_of-medium.result) = search rules in (
      fill_taken _ _ _ _ c.medium_of-medium.ensures _ _ c.from_buffer.ensures other c.if-from_buffer-ne.true _ c.copy_from_slice.ensures.after,
      search rules,
    )

pub returns : goal.returns
unfolding is_floppy
returns c =
    let other : c.ne.result ≡ not (is_floppy c.medium_of-medium.result) = search rules in
    let plain = c.plain_fill.ensures in (
      fill_plain _ _ _ _ c.medium_of-medium.ensures _ _ c.from_buffer.ensures other c.if-from_buffer-ne.false _ plain.0,
      plain.1,
    )
