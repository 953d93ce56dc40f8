pub mod Crossing
pub mod Passing
pub mod Places
pub mod Making
pub mod Ending
pub mod Naming
pub mod AllNames
