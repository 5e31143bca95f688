pub mod Orders
pub mod Sizes
