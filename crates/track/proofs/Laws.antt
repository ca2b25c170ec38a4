-- The laws meant for the crates above, each with its statement and proof in the module named. Of an image they ask that it
-- `Fits` at the most, so damaged ones are included.

-- ---- A track and its slots in an image
-- a track's bytes, where they lie, and what is lent of them
pub use Rattle.track.proofs.Images.{track_room, length_track, track_lent}
-- a track's own stretch in its place again; another one: the length, the track itself, every other track, the label
pub use Rattle.track.proofs.Images.{track_back, length_with_track, track_same, track_other, label_kept}
-- a slot and its data
pub use Rattle.track.proofs.Images.{slot_room, length_data, data_of_slot}
-- data written to a slot: the length, the slot itself, every other slot, every ID
pub use Rattle.track.proofs.Images.{length_with_data, data_same, data_other, id_kept}
-- ---- IDs
-- eight bytes; what is written is read; another sector of the same track
pub use Rattle.track.proofs.Ids.{id_length, id_back, sector_for}
-- ---- Finding: where the search for a track's sectors goes on
-- on a track of the drive
pub use Rattle.track.proofs.Finds.{where_in}
-- at an error, on the track itself or on its partner: what holds of each holds
pub use Rattle.track.proofs.Finds.{where_has}
-- the two told apart
pub use Rattle.track.proofs.Finds.{off_on, on_same}
-- on the track itself, or on the one that it is moved to; on the track itself by slot 0, which has flag 0: it is sound
pub use Rattle.track.proofs.Homes.{where_state, home_parts, home_state_lem, home_same}
-- where slot 0 is one that a format writes: the state, and where the search goes on
pub use Rattle.track.proofs.Written.{state_written, sound_written, bad_written, taken_written, moved_written}
-- a partner past the last track is not taken; one that is taken is a track of the drive, with A1h, its own cylinder and head, flag 3
-- and the other's number, and the format commands see it as taken too
pub use Rattle.track.proofs.Takens.{taken_past, taken_in_lem, taken_tests, taken_flag, state_taken}
-- a track formatted is taken only where it was formatted as taken
pub use Rattle.track.proofs.Takens.{taken_made}
-- states told apart
pub use Rattle.track.proofs.Takens.{taken_one, sound_taken, bad_taken, moved_taken}
-- where no pair is split by track s, no track from s on is taken by one before it
pub use Rattle.track.proofs.Pairs.{whole_pairs}
-- ---- Finding: the slot that is used for a sector
-- it holds the sector, no slot before it does, and one is used wherever there is one; a slot holds one sector
pub use Rattle.track.proofs.Used.{used_holds, used_first, unused, holds_one}
-- a slot with an ID that a format writes holds the ID's sector
pub use Rattle.track.proofs.Written.{holds_written}
-- a sector by where the search goes on
pub use Rattle.track.proofs.Used.{sector_on, sector_off}
-- a sector that is found: where the search went on, a slot of the drive, the first that holds it, and no other sector's
pub use Rattle.track.proofs.Located.{located_there, located_in, located_first, located_apart}
-- one that is not: its code
pub use Rattle.track.proofs.Located.{Code, located_code}
-- ---- Finding goes by IDs alone
-- images with the same IDs: the search goes on in the same track, each sector is found in the same slot
pub use Rattle.track.proofs.SameIds.{SameIds, where_same, found_same}
-- a write of data keeps every ID
pub use Rattle.track.proofs.SameIds.{data_keeps}
-- the same of one track
pub use Rattle.track.proofs.Alike.{Alike, slot_alike, with_data_alike, slot_kept}
-- ---- The search that keeps notes
-- what look_for leaves, and what it says of a sector: no slot, or which
pub use Rattle.track.proofs.Notes.{Found}
pub use Rattle.track.proofs.Searched.{slot_none, slot_some, slot_in}
-- the loop that notes every slot
pub use Rattle.track.proofs.Notes.{Looked, looked_more, noted_all}
-- it holds of a track with the same IDs too
pub use Rattle.track.proofs.Alike.{noted_alike, found_alike}
