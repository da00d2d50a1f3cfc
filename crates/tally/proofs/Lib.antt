-- Laws of the tally.
pub mod Tallies
