-- Request E6: one drive's work and another's.
pub mod Unbuffered
pub mod Filled
pub mod Apart
pub mod Alike
pub mod Calls
pub mod Separated
pub mod Turns
