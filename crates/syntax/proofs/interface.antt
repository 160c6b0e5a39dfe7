-- Laws of interfaces.
pub mod Laws
