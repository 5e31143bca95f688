-- Busy generators on several channels together.
-- Assumes nothing.
pub mod Joint
