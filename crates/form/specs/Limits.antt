-- The limits of document 01, "The book", on texts, each by its sentence; those on what a text declares are the crate meaning's. The limit
-- of a pattern's occurrences is `occurrence_limit` of the crate pattern.
use Rattle.std.specs.Prelude.{ℕ}
pub use Rattle.meaning.specs.Limits.{variable_limit, symbol_limit, kind_limit, parameter_limit, number_limit}

-- "A book is ASCII text, at most 4,096 bytes."
abbrev pub text_limit : ℕ
text_limit = 4096

-- "A name is a to z, then a to z or 0 to 9, 1 to 12 bytes"
abbrev pub name_limit : ℕ
name_limit = 12

-- "at most 16 parentheses open together"
abbrev pub open_limit : ℕ
open_limit = 16
