-- What the scanning functions give, in the words of the crate form: Steps; Refusals (document 01's number and place for each case of the enum).
pub mod Steps
pub mod Refusals
