-- What holds of every message that is written.
-- Assumes nothing.
pub mod Laws
