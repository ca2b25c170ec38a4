pub mod State
pub mod Id
pub mod Image
pub mod Find
pub mod Search
pub mod Pair
