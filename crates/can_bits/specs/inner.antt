pub mod Sending
pub mod Checking
