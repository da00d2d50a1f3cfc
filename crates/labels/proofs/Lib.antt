-- The laws of new labels in lent words: one label (Labels), and what is held behind what was (Held).
pub mod Held
pub mod Labels
