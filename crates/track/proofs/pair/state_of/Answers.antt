use Rattle.track.specs.Pair.{state_of}
use Rattle.track.proofs.pair.state_of.Goals as goal

pub returns : goal.returns
unfolding state_of
returns c = rw (← c.first_id-id.ensures, ← c.is_own.ensures) c.state_by.ensures
