-- What the contracts of the questions cite. The definitions of what they answer are those of the crate `listing`.
pub mod Passes
pub mod Props
pub mod Stages
pub mod Checked
pub mod Answers
pub mod Drafts
pub mod Uses
pub mod UseCounts
pub mod Alias
pub mod Values
