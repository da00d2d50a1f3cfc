-- Laws of the look-up, for the readers of lines and patterns.
pub mod Names
