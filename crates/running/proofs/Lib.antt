pub mod Gathering
pub mod Meaning
pub mod Determined
pub mod Leading
pub mod Shown
