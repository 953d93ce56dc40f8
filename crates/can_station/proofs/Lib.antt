pub mod Replies
pub mod Marking
pub mod Stepping
pub mod Answering
pub mod PublishedFacts
pub mod Outcomes
pub mod Listing
