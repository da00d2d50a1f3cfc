-- What the proofs of the functions share: the loop over the held disjuncts (Turns) and the loop over the positions (Symbols).
pub mod Turns
pub mod Symbols
