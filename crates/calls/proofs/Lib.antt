-- A few calls, computed from the definitions alone. The theorems about calls and about lists of them are in the crate demands.
pub mod Anchors
