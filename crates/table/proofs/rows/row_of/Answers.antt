use Rattle.model.specs.Table.{check_number, is_among}
use Rattle.table.proofs.Stands.{rows, row_from, checks_of, rows_read, row_copy, rows_past}
use Rattle.table.proofs.rows.row_of.Goals as goal

pub returns-then-opcode-lt18 : goal.returns-then-opcode-lt18
unfolding rows row_from checks_of is_among check_number
returns-then-opcode-lt18 c = rows_read _ _ c.if-opcode-lt18.true

pub returns-then-opcode-eq32 : goal.returns-then-opcode-eq32
unfolding row_from checks_of is_among check_number
returns-then-opcode-eq32 c = row_copy _ c.if-opcode-eq32.true

pub returns : goal.returns
unfolding row_from checks_of is_among check_number
returns c = rows_past _ c.if-opcode-lt18.false c.if-opcode-eq32.false
