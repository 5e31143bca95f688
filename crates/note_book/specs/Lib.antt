-- Demand 3: the note book, the claim about every list, the order of age over it, who loses a note, and the rhythm
-- channels.
pub mod Book
pub mod Claim
pub mod Age
pub mod WhoLoses
pub mod Rhythm
