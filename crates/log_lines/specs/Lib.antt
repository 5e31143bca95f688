-- The program `arrange`: its input, and what it answers.
-- Assumes nothing.
pub mod LogLines
