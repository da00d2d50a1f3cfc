-- Laws for the functions of this crate: what it says that numbers fit into words (Splits), what types tell of symbols (Sizes), and a book of its
-- parts (Wholes); and the book of a reading fits (Fits).
pub mod Splits
pub mod Sizes
pub mod Wholes
pub mod Fits
