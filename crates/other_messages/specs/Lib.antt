-- What note-offs and controllers do.
pub mod OtherMessages
