-- The code's disjunct against the plain one: laws for the crates above (Disjuncts), what the functions over slots share (Slots), and what a
-- meeting needs (Meeting).
pub mod Disjuncts
pub mod Slots
pub mod Meeting
