use Rattle.hex_text.proofs.Texts.{written_more}
use Rattle.hex_text.proofs.text.encode.Goals as goal

pub loop-i-preserved : goal.loop-i-preserved
loop-i-preserved c = written_more _ _ _ _ _ c.loop-i.invariant _ _ c.requires c.loop-i-test.true c.digit_for.ensures c.digit_for-in-loop-i.ensures
