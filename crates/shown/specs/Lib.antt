-- What the service page shows.
-- Assumes nothing.
pub mod Shown
