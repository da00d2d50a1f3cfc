-- Laws for the proofs of the functions.
pub mod Words
pub mod Demands
pub mod Growth
pub mod Picks
