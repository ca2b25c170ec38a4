-- No other record changes, and what is written is read.
pub mod Commands
pub mod Codes
pub mod Copies
pub mod Calls
pub mod Places
