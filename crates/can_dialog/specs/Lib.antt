pub mod Calls
pub mod Plans
pub mod Turns
pub mod Sessions
pub mod Lives
pub mod Deliveries
