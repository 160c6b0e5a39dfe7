-- What the contracts cite: definitions.
pub mod Ascii
pub mod Laid
pub mod Quoted
pub mod Decimal
pub mod Refused
