pub mod Buses
pub mod Files
pub mod Live
pub mod LiveLines
