-- A larger fragment as a piece, for the proofs of the functions.
pub mod Wholes
