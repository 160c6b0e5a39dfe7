-- What the contracts cite.
pub mod Asked
pub mod Left
pub mod Printed
