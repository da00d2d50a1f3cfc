-- What the readers of lines give, in the words of the crate form.
pub mod Results
