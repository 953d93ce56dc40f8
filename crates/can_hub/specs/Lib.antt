pub mod Buses
pub mod HubBuses
pub mod Benches
pub mod Settling
pub mod Returning
pub mod PassSteps
