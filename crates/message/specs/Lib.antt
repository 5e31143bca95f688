-- What a channel message says.
pub mod Message
