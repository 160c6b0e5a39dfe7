-- The laws of the label number.
pub mod Laws
