-- What the contracts of the environment cite. The definitions of what names stand for are those of the crate `judgement`.
pub mod Tables
pub mod Trees
pub mod Merging
pub mod Props
pub mod Scopes
