use Rattle.track.proofs.Notes.{noted_unmarked, noted_past, noted_set, noted_kept}
use Rattle.track.proofs.search.note.Goals as goal

pub returns-then-slot : goal.returns-then-slot
returns-then-slot c = noted_unmarked _ _ _ c.if-slot.true

pub returns-then-s-ge32 : goal.returns-then-s-ge32
returns-then-s-ge32 c = noted_past _ _ _ c.if-slot.false c.if-s-ge32.true

pub returns-then-is_none : goal.returns-then-is_none
returns-then-is_none c = noted_set _ _ _ c.if-slot.false c.if-s-ge32.false c.if-is_none.ensures

pub returns-else-is_none : goal.returns-else-is_none
returns-else-is_none c = noted_kept _ _ _ c.if-slot.false c.if-s-ge32.false c.if-is_none.ensures
