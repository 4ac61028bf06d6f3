pub mod Same
pub mod Carry
pub mod Unique
pub mod Kept
pub mod Once
pub mod Accepted
pub mod Faultless
