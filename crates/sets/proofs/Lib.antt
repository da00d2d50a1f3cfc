-- What the loops over two sets share (Turns).
pub mod Turns
