-- The tests of the code and one turn of each loop, for the proofs of the functions.
pub mod Steps
