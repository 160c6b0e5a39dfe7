-- What the contracts of the check cite. The definitions of the check itself are those of the crate `judgement`.
pub mod Props
pub mod Tables
pub mod Walk
pub mod Types
pub mod Decs
pub mod Actors
pub mod Passing
pub mod Init
