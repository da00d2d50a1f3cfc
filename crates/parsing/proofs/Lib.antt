-- The theorems about texts. What the reader answers, in terms of the stated form: Accepted, over Shapes (between a text of the stated
-- form and its reading), Ascii (its bytes), Outcomes (what is known of any reading) and Faults (numbers and places of faults).
-- The lines before the pattern: Header, over VarsLine, Arguments, SymbolLines and Declared, one line after the other, and Words,
-- Names, Numerals, what single words say. The pattern: Pattern, over TokenScan (its tokens), Grammar (phrases), Course (what was read
-- is a phrase), Complete (every phrase is read); Fuel (the bound on calls is no bound). Scans: laws of scanning. FormWords: the stated form in words,
-- every condition written out, for readers of `Shape`, `text` and `tokens`.
pub mod Scans
pub mod Words
pub mod Names
pub mod Numerals
pub mod VarsLine
pub mod Arguments
pub mod SymbolLines
pub mod Declared
pub mod Header
pub mod TokenScan
pub mod Grammar
pub mod Course
pub mod Complete
pub mod Pattern
pub mod Faults
pub mod Fuel
pub mod Outcomes
pub mod Shapes
pub mod Ascii
pub mod Accepted
pub mod FormWords
