pub mod Sizes
pub mod Counting
pub mod Passing
pub mod Competing
pub mod Replying
pub mod Restarting
pub mod Posting
pub mod Queueing
