-- Document 01: a track as the format commands see it, and Format Drive's test for a pair that it would split.
use Rattle.std.specs.Prelude.{ℕ, Bool, false, not, ◌&&◌, ◌||◌, List, eqb, ltb}
use Rattle.base.specs.Pick.{pick}
use Rattle.base.specs.First.{some_below}
use Rattle.geometry.specs.declared.params.Params.{Params}
use Rattle.geometry.specs.declared.params.Track.{Track}
use Rattle.geometry.specs.Params.{track_count, track}
use Rattle.track.specs.declared.id.Id.{Id}
use Rattle.track.specs.declared.state.State.{State}
use Rattle.track.specs.declared.state.State.TheVariants.{Sound, Bad, Moved, Taken}
use Rattle.track.specs.Id.{own_id}
use Rattle.track.specs.Image.{first_id}

-- Moved or taken when slot 0 has A1h, its own cylinder and head, and flag 2 or 3; bad likewise with flag 1.
-- Any other track counts as sound here, whatever is in it.
unfoldable pub state_by : Id → (own : Bool) → State
state_by id own =
    pick (not (eqb id.mark 0xA1)) Sound
    (pick (not own) Sound
    (pick (eqb id.flag 1) Bad
    (pick (eqb id.flag 2) (Moved id.partner)
    (pick (eqb id.flag 3) (Taken id.partner)
    Sound))))

unfoldable pub state_of : Params → Track → List ℕ → State
state_of p t image = state_by (first_id p t image) (own_id p t (first_id p t image))

-- Exactly one of tracks t and u is below s.
unfoldable pub one_below : (s t u : Track) → Bool
one_below s t u = (ltb t.0 s.0 && not (ltb u.0 s.0)) || (not (ltb t.0 s.0) && ltb u.0 s.0)

-- Track t is moved or taken, and exactly one of it and its partner is below s.
unfoldable pub splits : (s t : Track) → State → Bool
splits s t Sound = false
splits s t Bad = false
splits s t (Moved u) = one_below s t u
splits s t (Taken u) = one_below s t u

-- Some track is.
unfoldable pub pair_split : Params → (s : Track) → List ℕ → Bool
pair_split p s image = some_below (λ t. splits s (track t) (state_of p (track t) image)) (track_count p)
