pub mod Orders
pub mod Blocks
pub mod Views
