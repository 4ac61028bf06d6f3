pub mod Behaviour
pub mod Clean
pub mod Faults
