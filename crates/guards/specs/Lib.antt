pub mod Guard
pub mod Reading
pub mod Places
