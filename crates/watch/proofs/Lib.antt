-- For the proofs of the functions: how a call ends (Ends). The theorems of the three demands are in the crate calls.
pub mod Ends
