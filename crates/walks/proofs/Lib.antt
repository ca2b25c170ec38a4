pub mod Kit
pub mod Locals
pub mod Places
pub mod Records
pub mod Arrays
pub mod Passed
pub mod Callee
pub mod Lend
