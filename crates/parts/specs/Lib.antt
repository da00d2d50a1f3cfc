-- One event over a list of parts (Parts), the calls of a set of books in lent words (SetBlock), and calls with what they must leave (Samples): document 02,
-- change 2.
pub mod Parts
pub mod SetBlock
pub mod Samples
