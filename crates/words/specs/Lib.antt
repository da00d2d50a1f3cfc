-- What the readers of words give, in the words of the crate form.
pub mod Told
