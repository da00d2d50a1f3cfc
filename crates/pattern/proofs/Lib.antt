-- The theorems about patterns: `positions` (Spell), the empty word and bound variables (Words), ranges, sizes and
-- counts of the masks (Masks). What they rest on: membership in a mask (Members), one word and then another (Then), what
-- may come after a position (After). Acceptance, over the definitions alone: a few patterns with their masks, computed. Textbook: the words of each
-- expression, as any textbook has them. Usual: each bit of the masks, as any textbook has them.
pub mod Acceptance
mod Members
mod Then
mod After
pub mod Masks
pub mod Spell
pub mod Words
pub mod Textbook
pub mod Usual
