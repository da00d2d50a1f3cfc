-- The sets of one event as the code makes them: over lists, with four entries to every disjunct, and bounded. Their laws, in
-- ../proofs, say that they are the sets of the crate meaning.
pub mod Bounded
