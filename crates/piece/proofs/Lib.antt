-- What the functions of this crate and of `compound` share: an array filled from the front (Fills), the masks and symbols of a larger
-- fragment from those of its parts (Laws); and the arrays of a whole pattern (Arrays).
pub mod Fills
pub mod Laws
pub mod Arrays
