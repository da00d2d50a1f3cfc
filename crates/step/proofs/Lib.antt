-- Laws for the proofs of this crate: Meetings (what is met of a list of disjuncts, as a set), Sources (a step set that grows by one
-- source at a time).
pub mod Meetings
pub mod Sources
