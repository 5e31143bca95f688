-- What a byte means: MIDI 1.0 as section 4 of docs/RULES.md has it.
pub mod Split
