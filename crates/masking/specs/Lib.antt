-- What a new table does to notes.
pub mod Masking
