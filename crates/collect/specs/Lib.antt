-- What a count, a flag and lent words say of the rows of an event.
pub mod Yields
