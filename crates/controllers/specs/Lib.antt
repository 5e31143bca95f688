-- What controllers do to a channel's numbers, and which of them end notes.
pub mod Controllers
