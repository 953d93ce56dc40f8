pub mod Blocks
pub mod Compiling
pub mod Inverses
pub mod Joins
pub mod Widening
