pub mod Initials
pub mod Loads
pub mod Resets
