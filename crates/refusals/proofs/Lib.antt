-- Laws of refusals, of verdicts, of outcomes and of lists that are handed over.
pub mod Refusals
pub mod Verdicts
pub mod Outcomes
pub mod Handed
pub mod Handing
