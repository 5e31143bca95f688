-- The answers in plain numbers.
pub mod Numbers
