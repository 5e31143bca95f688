pub mod Marked
pub mod Plays
