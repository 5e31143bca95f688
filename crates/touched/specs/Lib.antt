-- What a byte touches.
pub mod Touched
