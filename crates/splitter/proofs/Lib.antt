-- What callers may use of the parser: its length, and what holds whatever bytes come.
pub mod Sizes
pub mod RealTime
pub mod Bounds
