pub mod Layouts
pub mod Slots
