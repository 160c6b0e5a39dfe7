-- Laws of the names that are empty.
mod Names
