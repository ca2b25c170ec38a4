pub mod Keep
pub mod Power
