-- The service page.
-- Assumes nothing.
pub mod Page
