pub mod Ordering
pub mod Inside
