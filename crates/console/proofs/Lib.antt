pub mod Came
pub mod Sofar
pub mod Lined
pub mod Spelt
