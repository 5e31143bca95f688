-- SysEx: which ones are for us.
pub mod SysEx
