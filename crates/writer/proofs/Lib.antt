-- Laws for the functions of this crate: the turn of the loop over rows (Turns).
pub mod Turns
