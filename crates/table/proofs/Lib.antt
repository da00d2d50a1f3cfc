-- Laws of the symbol table: what is coded is read back and stays ready as names are added (Codes); the elements of an array from one
-- index up to another (Spans) and masks of bound variables (Masks), for the proofs of the functions.
pub mod Codes
pub mod Spans
pub mod Masks
