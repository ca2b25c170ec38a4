use mathlib.Core.Path.{sym, ap, ◌∙◌}
use mathlib.Core.List.{List, []}
use lib.ListN.{get_or-map}
use Rattle.std.specs.Prelude.{ℕ}
use Rattle.std.proofs.Common.{Bor}
use Rattle.copying.specs.Images.{image_of}
use Rattle.pouring.proofs.images.Images.of.Goals as goal

pub returns : goal.returns
unfolding image_of
returns c =
    sym (get_or-map (λ (i : Bor (List ℕ)). i.now) c.shared-images.result c.args.drive (record { ref_ptr = (0, 0); now = [] }))
    ∙ ap (image_of c.args.drive) c.shared-images.ensures
