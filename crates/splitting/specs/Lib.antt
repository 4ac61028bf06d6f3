pub mod Splitting
pub mod Inside
