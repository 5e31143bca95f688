pub mod Room
pub mod Refused
pub mod Sentences
pub mod Page
pub mod Witness
