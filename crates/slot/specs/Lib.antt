-- One variable of a disjunct: how the code holds it, against the entry of the crate meaning.
pub mod Slots
