use Rattle.hex_text.proofs.Texts.{Written}
use Rattle.hex_text.proofs.text.encode.Given as goal

abbrev pub invariant-loop-i : goal.invariant-loop-i
invariant-loop-i l = Written l.initial.text l.at l.bytes l.text l.i
