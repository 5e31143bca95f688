-- What a device can reach (Reached), and for what reasons its calls are refused (Reasons).
pub mod Reached
pub mod Reasons
