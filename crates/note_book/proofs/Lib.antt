-- The proof of demand 3, from one generator up to every list, and facts which show that it bites.
pub mod Playable
pub mod Sees
pub mod Pigeons
pub mod Choose
pub mod Foretold
pub mod Matches
pub mod Steps
pub mod Run
pub mod Age
pub mod WhoLoses
pub mod Bytes
pub mod Demand3
pub mod Witness
pub mod ModeMessages
