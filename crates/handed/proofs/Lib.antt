-- For the proofs of the functions: promises carried to a result (Carried).
pub mod Carried
