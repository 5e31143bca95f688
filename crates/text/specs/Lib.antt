-- Text in a page.
pub mod Text
