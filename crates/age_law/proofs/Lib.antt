pub mod At
pub mod Assigned
