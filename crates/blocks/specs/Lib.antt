-- Book, state and tally in lent words: Groups (words cut into groups), BookBlock, StateBlock, TallyBlock (each block read back as a struct,
-- whatever its words are, and made of one), Lent (what the lent calls hand back and leave).
pub mod Groups
pub mod BookBlock
pub mod StateBlock
pub mod TallyBlock
pub mod Lent
