pub mod Membership
pub mod Passed
pub mod Layers
pub mod Joined
pub mod Determined
