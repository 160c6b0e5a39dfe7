-- What the contracts of the reader cite: Reading and Tables are definitions.
pub mod Reading
pub mod Tables
pub mod Steps
pub mod Props
pub mod Walks
