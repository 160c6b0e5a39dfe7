-- What the questions answer on document 01's examples. Read in this order: Answer, Table; Ring has one word of it.
pub mod Answer
pub mod Table
pub mod Repeats
pub mod Chains
pub mod Ring
