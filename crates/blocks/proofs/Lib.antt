-- The laws of the blocks of words: groups of words, the loops that read them, and lists written group by group (Groups); a book's words read back
-- (Books), a state's words read back and stored (States), a tally's (Tallies).
pub mod Groups
pub mod Books
pub mod States
pub mod Tallies
pub mod Anchors
