-- Laws of classes.
pub mod Laws
