pub mod Lists
pub mod Seated
pub mod Steps
