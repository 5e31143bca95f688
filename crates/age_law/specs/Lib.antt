-- The order in the record is the order of assignment.
pub mod AgeLaw
