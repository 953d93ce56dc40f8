pub mod Served
pub mod LongRuns
