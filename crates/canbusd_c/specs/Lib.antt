pub mod Locals
pub mod Shapes
pub mod Codes
pub mod Calls
pub mod Handles
pub mod Making
pub mod Benching
