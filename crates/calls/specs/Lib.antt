pub mod Promise
pub mod Shown
pub mod Inside
