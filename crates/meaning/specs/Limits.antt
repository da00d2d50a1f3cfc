-- The limits of documents 01 and 02 on what a book declares ("The book"; change 1) and on events, each by its sentence. The limit of a pattern's occurrences is
-- `occurrence_limit` of the crate pattern; those of a text's bytes are in the crate form.
use Rattle.std.specs.Prelude.{ℕ}

-- "`vars`, then 0 to 4 variable names"
abbrev pub variable_limit : ℕ
variable_limit = 4

-- "1 to 16 lines `sym NAME KIND ARGS`"
abbrev pub symbol_limit : ℕ
symbol_limit = 16

-- "KIND is 1 to 255 without leading zeros."
abbrev pub kind_limit : ℕ
kind_limit = 255

-- "ARGS are 0 to 4 words"
abbrev pub parameter_limit : ℕ
parameter_limit = 4

-- "`=` and a number 0 to 4294967295" (document 02, change 1)
abbrev pub number_limit : ℕ
number_limit = 4294967295

-- "byte 1 argument count (0 to 4)"
abbrev pub argument_limit : ℕ
argument_limit = 4
