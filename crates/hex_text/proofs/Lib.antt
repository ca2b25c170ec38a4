pub mod Digits
pub mod Lines
pub mod Texts
pub mod Rooms
pub mod Characters
pub mod Frames
