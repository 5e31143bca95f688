-- The queries of the device.
pub mod Queries
