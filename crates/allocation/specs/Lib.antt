-- Which generator a note gets.
pub mod Allocation
