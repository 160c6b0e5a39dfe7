-- Laws that callers of admission cite.
pub mod Admitting
mod Whole
