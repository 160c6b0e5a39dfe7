-- What a declaration book is. Read in this order: Forest, Node, Book, Encode, Fits, Layout, Within; References, Occurs, Numbered, Distinct,
-- Labels and Repeats, which speak of trees; Admission.
pub mod Forest
pub mod Node
pub mod Book
pub mod Encode
pub mod Fits
pub mod Layout
pub mod Within
pub mod Rules
pub mod Whole
pub mod References
pub mod Occurs
pub mod Distinct
pub mod Numbered
pub mod Labels
pub mod Repeats
pub mod Admission
