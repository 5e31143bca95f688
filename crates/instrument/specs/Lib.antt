-- The record of the sound module, without its parser.
pub mod Instrument
