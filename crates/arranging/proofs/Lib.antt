-- That a log in parts comes to the message of the whole log (Parts), by the larger of two counts (Largest), events that
-- move no generator (Quiet) and lines as they are told (Told); and what the code's proofs cite (Bytes, MipKind).
pub mod Bytes
pub mod Largest
pub mod MipKind
pub mod Parts
pub mod Quiet
pub mod Told
pub mod Witness
