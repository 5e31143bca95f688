-- The generators that a note-on may take.
pub mod Candidates
