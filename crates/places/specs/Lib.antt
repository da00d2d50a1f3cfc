-- A count with a list (Counts).
pub mod Counts
