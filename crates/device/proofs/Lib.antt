-- What holds of every list of bytes.
pub mod Bytes
