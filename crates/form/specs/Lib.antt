-- Texts of books. The stated form: Limits, Text (a printer of declarations), Tokens and Phrase (the grammar of patterns), Form (a text
-- of the stated form). The reader's course, which fixes numbers and places: Scan, Lines, Parse, Reading. Samples: a
-- table of texts with their readings.
pub mod Limits
pub mod Text
pub mod Tokens
pub mod Phrase
pub mod Form
pub mod Scan
pub mod Lines
pub mod Parse
pub mod Reading
pub mod Samples
