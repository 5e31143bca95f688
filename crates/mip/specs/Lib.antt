-- How a MIP message is judged, and what holds of an accepted one.
pub mod Mip
pub mod Laws
