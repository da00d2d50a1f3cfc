-- The constraint of the code against the plain one of the crate meaning.
pub mod Constraints
