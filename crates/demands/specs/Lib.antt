pub mod Respelled
pub mod Demands
pub mod Printed
pub mod Examples
pub mod Table
