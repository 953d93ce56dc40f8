pub mod Rows
pub mod Passes
pub mod Steps
pub mod Noting
pub mod Scrolls
