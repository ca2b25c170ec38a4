use mathlib.Core.Path.{◌∙◌}
use Rattle.track.proofs.Finds.{where_from, where_unmoved}
use Rattle.track.proofs.find.where_is.Goals as goal

pub returns-then-id-ne2 : goal.returns-then-id-ne2
returns-then-id-ne2 c =
    c.where_by.ensures ∙ where_unmoved _ _ _ _ _ c.first_id-id.ensures c.is_own-own.ensures c.if-id-ne2.true

pub returns : goal.returns
returns c =
    c.where_by-2.ensures
    ∙ where_from _ _ _ _ _ _ c.first_id-id.ensures c.is_own-own.ensures c.is_taken_by-taken.ensures
