-- Laws for the proofs of the scanning functions: runs of bytes, the bytes of a word, and steps.
pub mod Runs
pub mod Parts
pub mod Steps
