-- The song of n bytes: its bytes, the call that writes and plays it, and the thefts of any list of bytes.
pub mod Song
