use mathlib.Core.Path.{ap}
use Rattle.codes.specs.Numbers.{end_number}
use Rattle.alternates.proofs.Keeps.{map_lent, code_keeps, kept_fails, kept_well}
use Rattle.alternates.proofs.keep.assign_kept.Goals as goal

pub returns-in-Err : goal.returns-in-Err
returns-in-Err c =
    kept_fails c.args.b _ _ _ _ c.track_of-from.ensures _ c.keep_code.ensures.0 _ _ _ c.in-Err.is c.failed.ensures

pub keep-requires : goal.keep-requires
keep-requires c = (
  c.requires.0.fits,
  map_lent _ _ _ c.requires.0.interleave c.layout-map.ensures,
  code_keeps c.args.b _ _ _ _ c.track_of-from.ensures _ c.keep_code.ensures.0 c.requires.0.fits c.requires.0.track _ c.requires.2
      _ c.alternate_of.ensures _ c.track_of.ensures _ c.in_default.is,
  c.keep_code.ensures.1,
  c.keep_code.ensures.2 (ap end_number c.in_default.is),
)

pub returns : goal.returns
returns c =
    kept_well c.args.b _ _ _ _ c.track_of-from.ensures _ c.keep_code.ensures.0 _ _ _ c.in_default.is c.requires.0.interleave
    _ c.layout-map.ensures _ c.alternate_of.ensures _ c.track_of.ensures _ c.keep.ensures c.good.ensures
