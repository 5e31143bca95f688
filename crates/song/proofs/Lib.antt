pub mod Played
pub mod Written
