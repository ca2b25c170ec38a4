pub mod Assigns
pub mod Keeps
