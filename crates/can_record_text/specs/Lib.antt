pub mod Spelling
pub mod Texts
pub mod Lines
pub mod Values
pub mod LongRuns
pub mod RecordFaults
pub mod inner
