-- What the contracts of this crate cite. The definitions of imports and of the resolved actor are those of the crate `judgement`.
pub mod ByFile
pub mod Files
pub mod Classes
pub mod Interfaces
pub mod Resolving
pub mod Resolvers
pub mod Hashed
pub mod Gathering
