pub mod Benching
pub mod Refused
pub mod Watching
