use Rattle.hex_text.specs.Line.{line_now}
use Rattle.hex_text.proofs.Rooms.{Taken}
use Rattle.hex_text.proofs.line.accept_all.Given as goal

abbrev pub invariant-loop-c : goal.invariant-loop-c
invariant-loop-c l = Taken (line_now l.initial.line l.initial.bytes) l.text (line_now l.line l.bytes) l.c-index
