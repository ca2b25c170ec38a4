use borrow.Author.Rules.{rules}
use mathlib.Core.Path.{◌≡◌}
use lib.ListN.{length}
use Rattle.pouring.proofs.Lasts.{none_kept, one_kept}
use Rattle.pouring.proofs.images.keep_done.Goals as goal

pub returns-then-done-eq0 : goal.returns-then-done-eq0
returns-then-done-eq0 c = none_kept _ _ _ _ c.if-done-eq0.true

pub returns : goal.returns
returns c =
    one_kept _ _ _ _ c.if-done-eq0.false c.requires.1 c.requires.2 (let whole : length c.args.buffer.now ≡ 512 = search rules in whole) _ c.further.ensures _ _ c.read_on.ensures
