pub mod Parts
pub mod Numbers
pub mod Told
pub mod Written
pub mod Sentences
