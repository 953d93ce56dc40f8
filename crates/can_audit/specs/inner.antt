pub mod Counted
pub mod Noted
pub mod Posted
pub mod Replied
