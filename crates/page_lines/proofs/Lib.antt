-- What is written for an input (Sentences); and what the code's proofs cite (Room).
pub mod Room
pub mod Sentences
