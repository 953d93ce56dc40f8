pub mod Fields
pub mod Marks
pub mod Sent
pub mod Text
pub mod inner
