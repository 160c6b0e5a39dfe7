-- What admission answers.
pub mod Admitting
