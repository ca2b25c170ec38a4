pub mod Formats
pub mod Steps
pub mod Sounds
pub mod Numbers
pub mod IdChecks
pub mod Formed
pub mod Laws
