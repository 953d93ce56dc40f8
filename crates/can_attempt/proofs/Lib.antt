pub mod Calm
pub mod Judged
pub mod Places
pub mod Same
pub mod Seeing
pub mod Standing
