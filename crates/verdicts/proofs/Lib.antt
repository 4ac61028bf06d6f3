pub mod Agreeing
pub mod Answers
pub mod Gathered
pub mod Shown
pub mod Meaning
pub mod Determined
