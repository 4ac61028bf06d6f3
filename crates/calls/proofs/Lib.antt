pub mod Desk
pub mod Served
pub mod Promised
pub mod Shown
