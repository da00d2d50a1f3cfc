-- Laws for the functions of this crate: an event that no check refuses (Passed).
pub mod Passed
