-- Fractions and their rounding, the table, that a gain is a number, and the contract's words at work.
pub mod Frac
pub mod Rounding
pub mod Weights
pub mod Finite
pub mod Witness
