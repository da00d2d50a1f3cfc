-- What the functions of this crate share, and what the crates above need to know of valuations in lent words: how words read as
-- valuations (Valuations), and the comparison of two valuations (Values).
pub mod Valuations
mod Values
