-- Laws of the bounded sets: what the lists of the code pick out (Picks), four variables for fewer (WideDisjuncts, Wide), bounded skip
-- sets (Skips), the new labels (Labels) and the rows (RowSets) position by position. Anchors has what the definitions
-- of meaning compute at their limits.
pub mod Anchors
pub mod Picks
pub mod WideDisjuncts
pub mod Wide
pub mod Skips
pub mod Labels
pub mod RowSets
