pub mod Pick
pub mod Byte
pub mod Part
pub mod First
pub mod Same
