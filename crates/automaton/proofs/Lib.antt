-- The theorems about the meaning: demand 2 is Listed, demand 3 is Crossed, the ground of "never gets 9" is Kept. Members
-- (what each set holds), NoRoom (when there is no room), Counts and ProperTest say what the definitions compute; Starred has the starred
-- roasts as the declarative meaning has them. Below them: Orders (the comparisons), Held (positions
-- and disjuncts side by side), Fits (disjuncts read for one valuation), Entries
-- (meeting and excluding, variable by variable), Step (step and skip sets so read), Stems (where the disjuncts of a new state stem from),
-- Plain (plain runs, by the laws of runs of any machine), Automaton (the pattern's positions run for one valuation, against the declarative
-- meaning), Reduced (a row depends on the reduced trace alone), Bound (no row leaves a variable free), Tracks (what is held against any such run).
pub mod Orders
pub mod Held
pub mod Members
pub mod Fits
pub mod Entries
pub mod Step
pub mod Stems
pub mod Plain
pub mod Automaton
pub mod Reduced
pub mod Bound
pub mod Tracks
pub mod Listed
pub mod Crossed
pub mod Kept
pub mod Few
pub mod NoRoom
pub mod Counts
pub mod ProperTest
pub mod Starred
