-- The lent record.
pub mod Heard
