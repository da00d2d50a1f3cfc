-- The loop over the positions of a book (Books).
pub mod Books
