-- Laws of the resolved actor.
pub mod OneService
pub mod AsWritten
pub mod Merging
