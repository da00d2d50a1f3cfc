-- Facts about texts and books, computed from the definitions alone: EveryByte (classes of bytes, words of digits, every byte at seven places of
-- a text), Further (more texts with their readings), Whole (two readings whole, every number written out; names; cases of the enum), Behind (what
-- may stand behind a fault, and several spaces), Short (all short patterns), Full (limits met together, the numbers of answers, digits in names),
-- Signs (up to three signs in a row, their trees), Excess (every byte in excess words, behind the last line and before a sign; the last of 20 names).
pub mod EveryByte
pub mod Further
pub mod Whole
pub mod Behind
pub mod Short
pub mod Full
pub mod Signs
pub mod Excess
