-- What a channel remembers.
pub mod Channel
