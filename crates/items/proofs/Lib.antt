-- Results and their parts (Leaves), for the functions of this crate and for those that read on from them.
pub mod Leaves
