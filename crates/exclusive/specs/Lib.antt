-- What an ended SysEx does.
pub mod Exclusive
