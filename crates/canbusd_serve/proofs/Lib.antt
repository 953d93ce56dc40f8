pub mod Crossing
pub mod Fitting
pub mod Keeping
pub mod Serving
