pub mod Bytes
pub mod Cutting
pub mod Inside
