use mathlib.Core.Path.{refl}
use native.Mathlib.Omega.{arith}
use Rattle.copies.proofs.Judges.{source_bytes, filled_most}
use Rattle.copies.proofs.judge.filled_by.Goals as goal

pub overflow_mul-result : goal.overflow_mul-result
overflow_mul-result c = let m = source_bytes _ _ c.requires.0 c.requires.1 in omega arith

pub overflow_add-result : goal.overflow_add-result
overflow_add-result c = let m = source_bytes _ _ c.requires.0 c.requires.1 in omega arith

pub returns : goal.returns
returns c = (refl, filled_most _ _ _ c.requires.0 c.requires.1 (c.requires.2, c.requires.3))
