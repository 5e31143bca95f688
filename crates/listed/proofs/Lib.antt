pub mod Parts
pub mod Reasons
pub mod Sentences
