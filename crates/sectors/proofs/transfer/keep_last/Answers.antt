use mathlib.Core.Path.{◌∙◌}
use native.Mathlib.Omega.{arith}
use lib.Seq.{length-take-le}
use Rattle.sectors.proofs.Lasts.{last_none, last_lent}
use Rattle.sectors.proofs.transfer.keep_last.Goals as goal

pub returns-in-Some : goal.returns-in-Some
returns-in-Some c =
    last_lent _ _ _ _ _ _ (omega arith) (omega arith) (c.copy_from_slice.ensures.len ∙ length-take-le _ _ c.requires.0) c.copy_from_slice.ensures.after

pub returns-in_default : goal.returns-in_default
returns-in_default c = last_none _ _ _ _ (omega arith)
