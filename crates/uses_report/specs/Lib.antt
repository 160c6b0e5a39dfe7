-- What the contracts cite.
pub mod Printed
pub mod Told
