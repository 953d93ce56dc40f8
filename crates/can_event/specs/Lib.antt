pub mod Events
pub mod Spelled
pub mod Replies
pub use Rattle.can_frame.specs.Frames
pub use Rattle.can_frame.specs.Sets
pub use Rattle.can_filter.specs.Passing
