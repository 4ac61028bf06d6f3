pub mod Parts
pub mod Found
pub mod Words
pub mod Cuts
pub mod Same
pub mod Runs
pub mod Determined
