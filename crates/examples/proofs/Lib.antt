-- The theorem about the starred roasts, and its words.
pub mod Starred
pub mod Words
