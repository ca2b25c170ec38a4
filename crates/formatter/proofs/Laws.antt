-- The laws meant for the crates above, each with its statement and proof in the module named.

-- ---- What a format writes
-- a track's length, with a fill of D bytes
pub use Rattle.formatter.proofs.Formats.{length_formatted}
-- with a fill of at most D bytes: no more than a track, no less than an ID, and slot 0 begins with its ID
pub use Rattle.formatter.proofs.Formats.{formatted_most, formatted_least, formatted_front}
-- tracks made sound from one on: the length, a track before them, each of them
pub use Rattle.formatter.proofs.Sounds.{length_sound, sound_before, sound_in}
-- ---- Formed: each slot of a track has the ID that a format with this state and interleave writes
-- what is formatted is formed, and each slot has the fill
pub use Rattle.formatter.proofs.Formed.{Formed, format_forms, format_fills}
-- what is formed is found, by its state
pub use Rattle.formatter.proofs.Formed.{found_sound, found_moved, found_bad, found_taken}
-- a track formatted as bad is an error of slot 0
pub use Rattle.formatter.proofs.Formed.{where_bad}
-- it has its state for the format commands
pub use Rattle.formatter.proofs.Formed.{state_formed}
-- Check Track's code, by its state
pub use Rattle.formatter.proofs.Formed.{check_sound, check_moved, check_bad, check_taken}
