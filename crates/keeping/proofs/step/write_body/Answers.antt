use native.Mathlib.Omega.{arith}
use Rattle.keeping.proofs.Stores.{slot_inside, data_stored}
use Rattle.keeping.proofs.step.write_body.Goals as goal

pub copy_within-requires : goal.copy_within-requires
copy_within-requires c = (
  omega (arith, c.slot_start-source.ensures, slot_inside c.args.p c.args.from c.args.j _ c.requires.1 c.requires.2 c.requires.0.long),
  omega (arith, c.slot_start-place.ensures, slot_inside c.args.p c.args.to c.args.k _ c.requires.3 c.requires.4 c.requires.0.long),
  c.requires.0.within.size_most,
)

pub returns : goal.returns
returns c =
    data_stored c.args.p c.args.to c.args.k _ c.slot_start-place.ensures c.args.from c.args.j _ c.requires.2 c.slot_start-source.ensures _ _
    c.copy_within.ensures
