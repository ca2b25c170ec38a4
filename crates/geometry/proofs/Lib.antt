pub mod Sizes
pub mod Settings
pub mod Labels
pub mod Addresses
