-- Laws of the list.
pub mod Laws
