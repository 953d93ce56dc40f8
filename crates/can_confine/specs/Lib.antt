pub mod Confinement
