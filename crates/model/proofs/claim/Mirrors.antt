-- An image mirrors what the plain machine has of a drive: each track is formed as its state and interleave say, pairs are
-- mutual, and the bytes held are in their slots.
use Prim.Native.Nat.{ℕ, ◌+◌, ◌≤◌, ◌<◌}
use mathlib.Core.Path.{◌≡◌}
use mathlib.Core.Bool.{true}
use mathlib.Core.List.{List}
use lib.ListN.{length}
use Rattle.base.specs.Part.{part}
use Rattle.geometry.specs.declared.params.Lba.{Lba}
use Rattle.geometry.specs.declared.params.Track.{Track}
use Rattle.geometry.specs.declared.params.Params.{Params}
use Rattle.geometry.specs.Params.{track_count, track_of, sector_of, OnDrive}
use Rattle.interleave.proofs.Slots.{slot_of}
use Rattle.track.specs.declared.state.State.{State}
use Rattle.track.specs.declared.state.State.TheVariants.{Sound, Bad, Moved, Taken}
use Rattle.track.specs.Image.{track_bytes, slot_data}
use Rattle.formatter.proofs.Laws.{Formed}
use Rattle.model.specs.Machine.{Kind, stateless, sound, bad, moved, taken}
use Rattle.model.specs.Claim.{is_held}

-- The state on the disk of a track of this kind.
unfoldable pub state_for : Kind → State
state_for stateless = Sound
state_for sound = Sound
state_for bad = Bad
state_for (moved u) = Moved u
state_for (taken u) = Taken u

-- The track where the sectors of track t are.
unfoldable pub home_of : Track → Kind → Track
home_of t stateless = t
home_of t sound = t
home_of t bad = t
home_of t (moved u) = u
home_of t (taken u) = t

-- Track t's partner is one of the drive, mutual, with the same interleave.
pub record Paired (p : Params) (kind : Track → Kind) (inter : Track → ℕ) (t u : Track) (back : Kind) : Type 0 where
  pub ours : u.0 < track_count p
  pub returned : kind u ≡ back
  pub inters : inter u ≡ inter t

pub record Mirrors (p : Params) (kind : Track → Kind) (inter : Track → ℕ) (held : Lba → List ℕ) (image : List ℕ) : Type 0 where
  pub formed : (t : Track) → t.0 < track_count p → Formed p t (state_for (kind t)) (inter t) image
  pub inters : (t : Track) → t.0 < track_count p → (0 < inter t) × (inter t < p.sectors)
  pub stated : (t : Track) → t.0 < track_count p → kind t ≡ stateless → ⊥
  pub past : (t : Track) → track_count p ≤ t.0 → kind t ≡ stateless
  pub moves : (t u : Track) → t.0 < track_count p → kind t ≡ moved u → Paired p kind inter t u (taken t)
  pub takes : (t u : Track) → t.0 < track_count p → kind t ≡ taken u → Paired p kind inter t u (moved t)
  pub kept : (a : Lba) → OnDrive p a → is_held (kind (track_of p a)) ≡ true
      → slot_data p (slot_of p.sectors (inter (track_of p a)) (sector_of p a)) (track_bytes p (home_of (track_of p a) (kind (track_of p a))) image) ≡ held a

-- The label's sixteen bytes and the length are as before.
pub record KeepsLabel (before after : List ℕ) : Type 0 where
  pub len : length after ≡ length before
  pub label : (at size : ℕ) → at + size ≤ 16 → part at size after ≡ part at size before
