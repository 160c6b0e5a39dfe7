-- Laws of init arguments.
mod Laws
