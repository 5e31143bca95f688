-- The MIP table, and what holds of those that the device makes.
-- Assumes nothing.
pub mod Table
pub mod Laws
