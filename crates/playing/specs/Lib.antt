-- What a channel message does.
pub mod Playing
