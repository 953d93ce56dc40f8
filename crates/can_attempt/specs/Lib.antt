pub mod Attempts
pub mod Surveys
pub mod Words
