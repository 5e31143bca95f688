-- The proof of the claim (Kept), and the claim at work (Witness); the proof of what is said of reasons (Reasons).
pub mod Kept
pub mod Reasons
pub mod Witness
