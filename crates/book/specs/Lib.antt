-- What the reader hands back: Answers (document 01's number and place for each answer) and Books (the book as the code holds it, its
-- view, and the places of names); Counts (counts within the arrays), for the matcher's parts.
pub mod Answers
pub mod Books
pub mod Counts
