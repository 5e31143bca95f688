-- The pitch of a note.
pub mod Pitch
