pub mod Makings
pub mod FormatEnds
pub mod CheckEnds
