-- What the functions of Copy ask for.
use Rattle.std.specs.Prelude.{◌≡◌, List, ℕ, Some}
use Rattle.geometry.specs.declared.params.Params.{Params}
use Rattle.geometry.specs.Config.{Setting}
use Rattle.model.specs.declared.block.CopyBlock.{CopyBlock}
use Rattle.model.specs.declared.record.Drive.{Drive}
use Rattle.model.specs.Premises.{WellFormed, OnDrives}

-- A Copy's block, and the entries of its drives: one entry where it is one drive.
pub record TwoDrives (k : CopyBlock) (source target : Drive) : Type 0 where
  pub from : WellFormed k.from
  pub to : WellFormed k.to
  pub from_copy : k.from.opcode ≡ 0x20
  pub to_copy : k.to.opcode ≡ 0x20
  pub one_drive : k.from.drive ≡ k.to.drive → source ≡ target

-- Its checks have passed: where both drives have parameters, it can go on.
pub record Copyable (k : CopyBlock) (from to : Setting) (images : List (List ℕ)) : Type 0 where
  pub from_well : WellFormed k.from
  pub to_well : WellFormed k.to
  pub both : (p q : Params) → from ≡ Some p → to ≡ Some q → OnDrives k p q images
