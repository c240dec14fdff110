pub mod Following
pub mod Storing
pub mod Enough
