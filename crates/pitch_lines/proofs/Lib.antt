pub mod Refused
pub mod Room
pub mod Parts
pub mod Sentences
