-- A row of the code's table, and the row that it stands for.
use Rattle.std.specs.Prelude.{◌≡◌, Bool}
use Rattle.model.specs.Table.{Check, HardOnly, Control, FillBit, Present, Parameters, Interleave, Address, Counted, Settled, SparedWhole, KeepBit, TableRow, applies}
use Rattle.table.specs.declared.rows.Checks.{Checks}
use Rattle.table.specs.declared.rows.Row.{Row}

abbrev pub has : Checks → Check → Bool
has checks HardOnly = checks.hard_only
has checks Control = checks.control
has checks FillBit = checks.fill_bit
has checks Present = checks.present
has checks Parameters = checks.parameters
has checks Interleave = checks.interleave
has checks Address = checks.address
has checks Counted = checks.counted
has checks Settled = checks.settled
has checks SparedWhole = checks.spared_whole
has checks KeepBit = checks.keep_bit

pub record Says (row : Row) (e : TableRow) : Type 0 where
  pub command : row.command ≡ e.command
  pub takes : row.takes ≡ e.takes
  pub gives : row.gives ≡ e.gives
  pub checks : (check : Check) → has row.checks check ≡ applies check e
