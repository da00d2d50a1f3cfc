-- The state of the code against the plain one of the crate meaning.
pub mod States
