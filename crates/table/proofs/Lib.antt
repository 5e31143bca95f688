-- Laws that other layers cite: the length of a table's array (Sizes), its places (Places), a loop over its entries
-- (Walk), the starting table (Start).
-- Assumes nothing.
pub mod Sizes
pub mod Places
pub mod Walk
pub mod Start
