-- What the code's proofs cite: one channel more in a joint count (Channels).
pub mod Channels
