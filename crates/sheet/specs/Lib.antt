pub mod Sheet
pub mod Reading
pub mod Tables
pub mod Inside
pub mod Accepted
pub mod Numbered
pub mod Spelling
pub mod Places
