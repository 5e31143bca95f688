-- Lines of decimal numbers, and what they are answered.
pub mod Line
pub mod Answers
pub mod Fields
