-- The reports of the tone generator.
pub mod Reports
