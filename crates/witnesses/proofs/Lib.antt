-- Demand 3 at work.
pub mod Lists
