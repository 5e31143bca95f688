-- What the code's proofs cite (Counting), and what an order holds (Once).
pub mod Counting
pub mod Once
