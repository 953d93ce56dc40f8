pub mod Benched
pub mod Refusals
pub mod inner
