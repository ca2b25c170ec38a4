pub mod Drives
pub mod Fronts
pub mod Ends
pub mod Rooms
pub mod TurnEnds
pub mod CopyEnds
pub mod Loops
pub mod Lasts
