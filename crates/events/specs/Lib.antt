-- The device by its events.
pub mod Events
