-- Laws that other layers cite (Shares), and those of the loop that looks for a share (Walk).
-- Assumes nothing.
pub mod Walk
pub mod Shares
