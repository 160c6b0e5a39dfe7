-- What is found, and what the functions that find it promise each other.
pub mod Found
pub mod Keys
pub mod Steps
