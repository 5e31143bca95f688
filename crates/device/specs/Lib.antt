-- The device: start and bytes.
pub mod Device
