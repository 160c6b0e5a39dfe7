-- Laws of the uses of listed names.
pub mod Handing
pub mod Laws
