-- Request E7: what holds after a power failure during a move.
pub mod Reading
pub mod Passed
pub mod Restarted
pub mod Calls
pub mod Facts
pub mod ReadAgain
pub mod SentAgain
pub mod Moved
pub mod Uncut
pub mod Labelled
