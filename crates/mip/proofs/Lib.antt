-- The law of an accepted message (Accepted), and those that the proofs of the code cite: of the length (Length), of the
-- loop over the pairs (Pairs) and of its marks (Listed).
pub mod Accepted
pub mod Length
pub mod Pairs
pub mod Listed
