-- The laws meant for the crates above, each with its statement and proof in the module named. `Fits p image` and `Keepable` are all that
-- they ask of an image, so damaged ones are included.

-- ---- Before a move
-- a sector that is found has the data of its slot
pub use Rattle.keeping.proofs.Reading.{content_slot}
-- the code of the first missing sector: below 80h; an error of slot 0 is the code; none is missing in a track formatted as sound
pub use Rattle.keeping.proofs.Missing.{missing_below, missing_off}
pub use Rattle.keeping.proofs.Chosen.{sound_code}
-- it may be made where the checks have passed and none is missing, and only there
pub use Rattle.keeping.proofs.Chosen.{may_keep, keepable_code}
-- ---- A whole move
-- an interleave's layout is a map; a whole move is one that is interrupted too late
pub use Rattle.keeping.proofs.Kept.{layout_maps, kept_late}
-- A and B have the IDs of a format, and B has A's data
pub use Rattle.keeping.proofs.Kept.{kept_moved, kept_taken, kept_there}
-- ---- Wherever power fails
-- the image's length, what is before and behind the tracks, every track but A and B
pub use Rattle.keeping.proofs.Outside.{same_length, same_beyond, same_track_in}
-- every address outside B reads as before; the move can be made again, or A's addresses are found on B
pub use Rattle.keeping.proofs.Power.{power, again, moved_found}
