pub mod Scanning
pub mod Heading
pub mod Moving
pub mod Ranking
