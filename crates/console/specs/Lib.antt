-- What a program's reads and writes may answer.
pub mod Console
