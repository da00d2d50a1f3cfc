-- What the functions of this crate share, and what the crates above say of slots: the slot against its entry (Slots), lists
-- searched and compared from an index on and the place of an insertion (Insertions), and what the loops make of an array (Arrays).
pub mod Slots
pub mod Insertions
pub mod Arrays
pub mod Excluding
