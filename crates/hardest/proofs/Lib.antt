pub mod Starts
pub mod Counts
pub mod Worst
pub mod Line
pub mod Reached
pub mod Witness
