pub mod Clients
pub mod Driving
pub mod Timed
pub mod Openings
pub mod Batches
pub mod Conversations
pub mod Keeping
pub mod Givens
