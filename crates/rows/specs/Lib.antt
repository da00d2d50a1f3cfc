-- Valuations in lent words.
pub mod Valuations
