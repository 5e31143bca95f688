-- The law that the proof of the code cites, of the head.
pub mod Head
