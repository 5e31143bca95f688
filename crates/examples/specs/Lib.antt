-- The examples P1 to P9.
pub mod Examples
