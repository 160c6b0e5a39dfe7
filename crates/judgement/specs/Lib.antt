-- When a declaration passes. The Rust's functions, arm by arm, and document 01's order: Environment, Aliases, Actor, Resolve, Check. What pins them
-- from outside, by predicates that reach no fuel and no verdict: WellFormed (Candid.md), Meaning, Same, Rust, Rows, Order.
pub mod Environment
pub mod Aliases
pub mod Actor
pub mod Resolve
pub mod Check
pub mod WellFormed
pub mod Meaning
pub mod Same
pub mod Rust
pub mod Rows
pub mod Order
