-- Laws for the readers of words: digits read, and the test of a fixed number.
pub mod Digits
pub mod Numbers
