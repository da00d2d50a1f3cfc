-- Bench: what a reading hands back, in terms of the stated form. Words: the book as the matcher sees it, in words.
pub mod Words
pub mod Bench
pub mod Refusals
