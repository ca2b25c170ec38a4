pub mod Said
pub mod Talk
pub mod Frames
pub mod Hearing
