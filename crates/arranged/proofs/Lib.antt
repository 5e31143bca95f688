-- The laws of the message (Message). Below them: the entries of an order (Entries), values that never fall (Values) and
-- are tight (Tight), our reader (Reader); and which numbers fall in a log (Numbers); that the claims bite (Witness).
pub mod Entries
pub mod Message
pub mod Numbers
pub mod Reader
pub mod Tight
pub mod Values
pub mod Witness
