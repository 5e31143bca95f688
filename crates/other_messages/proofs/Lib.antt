-- Laws that other layers cite: the four mode messages are All Notes Off (ModeMessages).
-- Assumes nothing.
pub mod ModeMessages
