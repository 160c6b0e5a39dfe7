-- Laws of the draft list.
pub mod Laws
