-- What the words of the contracts mean.
pub mod Witness
