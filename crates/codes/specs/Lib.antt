-- The numbers that are answered.
pub mod Coded
