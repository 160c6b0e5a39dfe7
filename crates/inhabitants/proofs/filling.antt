-- Laws of which nodes fill: by what each waits for.
pub mod Nodes
pub mod Ended
