pub mod Seen
pub mod Carried
pub mod EntryAudits
pub mod Steps
pub use Rattle.can_replay.specs.Brought
pub use Rattle.can_replay.specs.Words
