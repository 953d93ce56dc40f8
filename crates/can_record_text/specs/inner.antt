pub mod Numerals
pub mod Reading
pub mod Words
pub mod Fronts
pub mod StoredLines
