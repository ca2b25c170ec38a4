pub mod Examples
pub mod Records
pub mod CopySessions
pub mod CopyRecords
pub mod Hearing
pub mod Exclusions
pub mod Departments
pub mod Moves
