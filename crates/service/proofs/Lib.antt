pub mod Walk
pub mod Count
pub mod Lines
pub mod Witness
