pub mod FilterLists
pub mod Frames
pub mod Runs
pub mod Benches
