-- Changes of state: keys and pedals.
pub mod Releases
pub mod Selection
