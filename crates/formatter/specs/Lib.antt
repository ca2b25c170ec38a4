pub mod Format
pub mod Number
pub mod Check
