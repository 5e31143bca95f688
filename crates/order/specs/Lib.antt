-- An order of the sixteen channels.
-- Assumes nothing.
pub mod Order
