-- Requests of songs, a line each, and their answers.
pub mod SongLines
