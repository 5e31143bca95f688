-- Laws of lines: what is read is the event whose line it is (Lines), and by the line's count (Sizes); and lines written
-- out (Witness).
pub mod Lines
pub mod Sizes
pub mod Witness
