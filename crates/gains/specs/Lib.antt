-- The gains of a channel.
pub mod Within
pub mod Gains
