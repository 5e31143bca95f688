-- Who loses a note.
pub mod Stealing
