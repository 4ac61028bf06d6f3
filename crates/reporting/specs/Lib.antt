pub mod Report
pub mod Laying
pub mod Inside
