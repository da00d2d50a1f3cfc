-- For the proofs of the functions: what the checks say (Checks), what the lent words say (Steps).
pub mod Checks
pub mod Steps
