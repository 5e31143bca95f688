pub mod Joined
pub mod Digits
pub mod Hexadecimal
