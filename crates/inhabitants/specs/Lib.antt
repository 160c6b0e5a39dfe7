-- What the contracts cite. Which types fill is defined in the crate `listing`, specs/Empty.antt, and how many values they have in specs/Values.antt.
pub mod Waiting
pub mod Filling
pub mod Counting
pub mod Empty
