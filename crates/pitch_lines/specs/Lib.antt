-- Calls of the pitch of a note, a line each, and their answers.
pub mod PitchLines
pub mod Fields
