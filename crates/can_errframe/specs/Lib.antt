pub mod ErrorCodes
pub mod ErrorMessages
