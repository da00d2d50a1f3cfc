-- Disjuncts in lent words (Sets), and what is held, positions beside disjuncts (Held).
pub mod Sets
pub mod Held
