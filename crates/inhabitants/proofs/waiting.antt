-- Laws of which nodes settle, in the order of the code: what places and nodes say, one node more, one that tells, the end.
pub mod Counts
pub mod Places
pub mod Known
pub mod Holding
pub mod Entered
pub mod Told
pub mod Turn
pub mod Ended
