-- What a sound book and a sound state give the event call (Soundness) and what the types alone tell of both (Sizes); for the functions
-- of this crate, what their loops keep (Loops), the order of what is held (Held), and soundness by the parts that they test (Parts).
-- Anchors has what the definitions compute.
pub mod Anchors
pub mod Loops
pub mod Sizes
pub mod Held
pub mod Parts
pub mod Soundness
