use native.Mathlib.Omega.{arith}
use Rattle.track.specs.State.{partner_of}
use Rattle.formatter.proofs.Sounds.{remade_more, remade_all}
use Rattle.formatter.proofs.format.format_from.Goals as goal

pub format_as-requires : goal.format_as-requires
unfolding partner_of
format_as-requires c =
    (record { within = c.requires.0.within; long = omega arith }, rw c.numbered.ensures (omega (arith, c.tracks-t-end.ensures, c.loop-t-test.true)), omega arith, c.requires.2, rw c.new-fill.ensures c.requires.3)

pub loop-t-preserved : goal.loop-t-preserved
loop-t-preserved c = remade_more _ _ _ _ _ _ _ (omega (arith, c.tracks-t-end.ensures, c.loop-t-test.true)) c.loop-t.invariant (rw c.numbered.ensures at c.format_as.ensures)

pub returns : goal.returns
returns c =
    rw (← c.new-fill.ensures)
    (remade_all _ _ _ _ _ _ (omega (arith, c.tracks-t-end.ensures, c.loop-t-test.false)) c.loop-t.invariant)
