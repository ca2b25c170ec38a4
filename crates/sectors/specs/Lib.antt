pub mod Transfer
pub mod Promises
pub mod Run
pub mod Last
