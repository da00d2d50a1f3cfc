-- Runs of any machine (Runs), and two traces whose elements pair up (Pairs): nothing of the product. Their laws are in ../proofs.
pub mod Runs
pub mod Pairs
