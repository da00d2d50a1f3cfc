-- The tally of document 01.
pub mod Tallies
