pub mod Laying
pub mod Inside
