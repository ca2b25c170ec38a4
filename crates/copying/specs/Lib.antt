pub mod Images
pub mod Ends
pub mod Copying
pub mod Listwise
