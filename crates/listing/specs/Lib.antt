-- What the questions answer. First what several share: the Rust's functions, arm by arm (Chase, Recursive, Sites, DefUse), and what
-- references and actors mean (References, Offers); Room has 16 and 17. Then a room for each question: what it answers, and its rows.
-- ReplaceEmpty, which no question answers by, is what emptiness is in the Rust.
pub mod Chase
pub mod Recursive
pub mod Sites
pub mod DefUse
pub mod References
pub mod Offers
pub mod Room
pub mod List
pub mod InitList
pub mod DraftList
pub mod Marks
pub mod Uses
pub mod UseCounts
pub mod Methods
pub mod Alias
pub mod Project
pub mod Empty
pub mod ReplaceEmpty
pub mod Values
pub mod Demand3
