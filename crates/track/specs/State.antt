-- Document 01, 'Tracks and slots': a track's states.
use Rattle.std.specs.Prelude.{ℕ, Bool, true, false, not, eqb}
use Rattle.geometry.specs.declared.params.Track.{Track}
use Rattle.geometry.specs.Params.{track}
use Rattle.track.specs.declared.state.State.{State}
use Rattle.track.specs.declared.state.State.TheVariants.{Sound, Bad, Moved, Taken}

-- Flag 0 sound, 1 bad, 2 moved to the partner, 3 taken by the partner.
unfoldable pub flag_of : State → ℕ
flag_of Sound = 0
flag_of Bad = 1
flag_of (Moved u) = 2
flag_of (Taken u) = 3

-- For 0 and 1 the partner is 0.
unfoldable pub partner_of : State → Track
partner_of Sound = track 0
partner_of Bad = track 0
partner_of (Moved u) = u
partner_of (Taken u) = u

-- What the format commands ask about.
unfoldable pub is_bad : State → Bool
is_bad Sound = false
is_bad Bad = true
is_bad (Moved u) = false
is_bad (Taken u) = false

unfoldable pub is_moved : State → Bool
is_moved Sound = false
is_moved Bad = false
is_moved (Moved u) = true
is_moved (Taken u) = false

unfoldable pub is_taken : State → Bool
is_taken Sound = false
is_taken Bad = false
is_taken (Moved u) = false
is_taken (Taken u) = true

-- Taken, by another track than t.
unfoldable pub is_taken_by_other : (t : Track) → State → Bool
is_taken_by_other t Sound = false
is_taken_by_other t Bad = false
is_taken_by_other t (Moved u) = false
is_taken_by_other t (Taken u) = not (eqb u.0 t.0)
