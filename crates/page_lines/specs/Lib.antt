-- The program `page`: its input, and what it answers.
-- Assumes nothing.
pub mod PageLines
