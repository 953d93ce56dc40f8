mod Growing
mod Longer
mod Places
