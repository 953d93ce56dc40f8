pub mod Publications
pub mod Readings
pub mod Rule
pub mod Words
