-- A song's log: its lines, and the event that a line says.
-- Assumes nothing.
pub mod Log
pub mod Parse
