-- Regular expressions over symbol numbers, their language, and their positions; a table of samples.
pub mod Regex
pub mod Positions
pub mod Samples
