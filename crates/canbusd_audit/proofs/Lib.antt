pub mod HeldLines
pub mod Fronts
pub mod Telling
pub mod Underway
