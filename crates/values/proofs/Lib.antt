pub mod Names
pub mod States
