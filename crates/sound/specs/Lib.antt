-- Soundness of a book and a state that are filled in any way. Tests: the parts of it that the code tests, for the code's own functions.
pub mod Soundness
pub mod Tests
