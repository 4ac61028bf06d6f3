pub mod Bits
pub mod Laws
pub mod Filled
pub mod Ordered
pub mod Determined
