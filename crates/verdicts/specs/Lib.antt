pub mod Verdicts
pub mod Judging
