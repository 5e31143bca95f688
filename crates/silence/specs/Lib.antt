-- Generators that fall silent.
pub mod Silence
