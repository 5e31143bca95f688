pub mod Scans
pub mod Wanted
