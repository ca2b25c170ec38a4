use Rattle.base.proofs.Ones.{Seen}
use Rattle.base.proofs.bytes.one_byte.Given as goal

abbrev pub invariant-loop-byte : goal.invariant-loop-byte
invariant-loop-byte l = Seen l.bytes l.byte-index l.same
