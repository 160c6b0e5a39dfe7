-- What the contracts cite.
pub mod Read
