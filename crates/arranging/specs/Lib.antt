-- The MIP message of a song's log (Arranging), and the same for a log in parts (Run).
-- Assumes nothing.
pub mod Arranging
pub mod Run
