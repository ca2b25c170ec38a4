use native.Mathlib.Omega.{arith}
use mathlib.Core.Path.{ap, ◌∙◌}
use Prim.Native.Nat.{◌+◌, ◌≤◌}
use lib.ListN.{length}
use Rattle.track.specs.Id.{id_bytes, id_for}
use Rattle.track.proofs.Laws.{id_length}
use Rattle.keeping.proofs.Stores.{slot_inside, id_stored}
use Rattle.keeping.proofs.step.write_id.Goals as goal

pub id_bytes-bytes-requires : goal.id_bytes-bytes-requires
unfolding id_for
id_bytes-bytes-requires c = rw c.id_for.ensures c.requires.2

pub slice_bounds-copy_from_slice-end : goal.slice_bounds-copy_from_slice-end
slice_bounds-copy_from_slice-end c = omega (
  arith,
  (let room : c.slot_start-start.result + 8 ≤ length c.args.image.now =
      omega (arith, c.slot_start-start.ensures, slot_inside c.args.p c.args.t c.args.k _ c.requires.1 c.requires.3 c.requires.0.long) in room),
)

pub returns : goal.returns
returns c =
    id_stored c.args.p c.args.t c.args.k _ c.slot_start-start.ensures _ _ _
    (c.copy_from_slice.ensures.after ∙ c.id_bytes-bytes.ensures ∙ ap id_bytes c.id_for.ensures) (id_length _)
