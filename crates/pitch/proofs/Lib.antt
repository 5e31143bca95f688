pub mod Roots
pub mod Floor
pub mod Rising
pub mod Reached
