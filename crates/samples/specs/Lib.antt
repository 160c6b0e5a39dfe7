-- Document 01's examples as a table. Read in this order: Notation, Written, Bytes, Table.
pub mod Notation
pub mod Written
pub mod Bytes
pub mod Table
