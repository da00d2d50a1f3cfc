-- What a fragment of a pattern is, in the words of the crate pattern.
pub mod Pieces
