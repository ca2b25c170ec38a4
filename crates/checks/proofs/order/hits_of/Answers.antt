use mathlib.Core.Path.{refl}
use Rattle.model.specs.Table.{Present, Parameters, Interleave, Address, Settled, row_for}
use Rattle.model.specs.Checks.{block_wrong, hits_of}
use Rattle.checks.proofs.Orders.{checked, held_checked, unknown_checked, bytes_checked, with_pending, unset_none, hits_same}
use Rattle.checks.proofs.order.hits_of.Goals as goal

pub bytes_of-requires-2 : goal.bytes_of-requires-2
bytes_of-requires-2 c = c.requires.1

pub returns : goal.returns
unfolding hits_of
returns c =
    let says = c.requires.0 in
    hits_same {b' = block_wrong (row_for c.args.b.opcode) c.args.b c.args.view}
    (unknown_checked says c.is_unknown.ensures)
    c.block_wrong.ensures
    (checked says Present refl refl refl)
    (checked says Parameters refl (unset_none _ c.is_none.ensures) refl)
    (checked says Interleave refl c.interleave_wrong.ensures refl)
    (checked says Address refl c.past_end.ensures refl)
    (with_pending c.args.view.pending (checked says Settled refl (held_checked says _ _ refl c.not_spared-held.ensures) refl) refl)
    (bytes_checked _ _ _ says.takes c.bytes_of.ensures)
    (bytes_checked _ _ _ says.gives c.bytes_of-2.ensures)
