pub mod Faulting
pub mod Turning
pub mod Room
pub mod Cuts
pub mod Living
pub mod LoneSends
pub mod Naming
