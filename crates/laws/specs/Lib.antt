-- General definitions, nothing of the product: tests over lists, bits of a number, orders by a three-way comparison,
-- ordered distinct sets, splices and padding. Their laws are in ../proofs.
pub mod Lists
pub mod Bits
pub mod Order
pub mod Sets
pub mod Parts
pub mod Checks
