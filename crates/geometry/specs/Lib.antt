pub mod Params
pub mod Medium
pub mod Config
