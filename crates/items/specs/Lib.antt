-- What the readers of a pattern give, in the words of the crate form. For this crate, grammar and reader.
pub mod Results
