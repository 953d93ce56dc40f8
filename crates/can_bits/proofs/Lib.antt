pub mod Levels
pub mod Marked
pub mod Rated
pub mod Divided
pub mod Laid
pub mod Whole
