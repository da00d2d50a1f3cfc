-- What the lent words say of the book and of what is held (Words).
pub mod Words
