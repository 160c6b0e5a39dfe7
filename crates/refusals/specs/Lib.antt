-- What is said of a book, whoever asks: refusals, verdicts, outcomes, and what a lent list holds after a call. All are definitions.
pub mod Lists
pub mod Refusal
pub mod Verdict
pub mod Outcome
pub mod Handed
