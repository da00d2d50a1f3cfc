-- Books whose numbers are words (Fits): what the functions that put a book into words ask. No public contract cites this page.
pub mod Fits
