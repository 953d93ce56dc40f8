pub mod Held
pub mod Waits
pub mod Marks
pub mod Published
pub mod Passes
pub mod Taking
