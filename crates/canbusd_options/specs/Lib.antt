pub mod BitsOptions
pub mod BusWords
pub mod Help
pub mod Options
pub mod Program
pub mod RateWords
