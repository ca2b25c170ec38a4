-- A Copy on the record: its block, and what it leaves.
use Rattle.std.specs.Prelude.{ℕ, ◌≡◌, List}
use Rattle.model.specs.declared.block.CopyBlock.{CopyBlock}
use Rattle.model.specs.declared.record.Controller.{Controller}
use Rattle.model.specs.declared.record.Outcome.{Outcome}
use Rattle.model.specs.Engine.{Result, on_drives}
use Rattle.model.specs.Premises.{WellFormed}

-- The block of a Copy, taken apart.
pub record IsCopy (k : CopyBlock) : Type 0 where
  pub from : WellFormed k.from
  pub to : WellFormed k.to
  pub from_copy : k.from.opcode ≡ 0x20
  pub to_copy : k.to.opcode ≡ 0x20

-- What a Copy leaves, whatever the data area.
abbrev pub CopyRan : CopyBlock → Controller → (images : List (List ℕ)) → Outcome → (after : List (List ℕ)) → Type 0
CopyRan k c images outcome after =
    (area : List ℕ) → ◌≡◌ {A = Result} (record { outcome = outcome; area = area; images = after }) (on_drives k c area images)
