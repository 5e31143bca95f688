-- The exclusive groups of drums.
pub mod Drums
