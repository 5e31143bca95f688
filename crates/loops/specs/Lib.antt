-- The words in which the definitions of this repository are written: a choice, and ways of going over a list.
pub mod Cases
pub mod Passes
