-- Laws that the proofs of several modules cite. What callers cite stands under the module that it serves: chase, def_use, hand, project,
-- reaching, recursive and use_counts.
pub mod BookNodes
