-- What the look-up of a name gives, in the words of the crate form.
pub mod Found
