-- What an input comes to (Input), also by its first line's fields (Order, Sentences); that the words bite (Witness);
-- and what the code's proofs cite (Sizes, Room).
pub mod Sizes
pub mod Input
pub mod Order
pub mod Room
pub mod Sentences
pub mod Witness
