-- The order of assignment among the sounding generators.
pub mod Ages
