pub mod Crossing
pub mod Rooms
pub mod Batching
pub mod Attempting
pub mod Talking
