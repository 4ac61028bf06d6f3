pub mod Ways
pub mod Promise
pub mod Runs
pub mod Shown
pub mod Inside
