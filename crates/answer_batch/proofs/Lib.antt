-- What the lines of inner functions cite.
mod Laws
