pub mod Counted
