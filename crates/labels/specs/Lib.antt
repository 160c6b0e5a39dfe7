-- What the contracts cite: definitions.
pub mod Number
pub mod Label
