-- Masks and shares: who may play, and how much.
-- Assumes nothing.
pub mod Shares
