pub mod Asking
pub mod GivenWords
pub mod Helping
pub mod Rules
pub mod Steps
pub mod Timings
