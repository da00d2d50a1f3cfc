-- Document 01: "Row, 24 bytes, no header: event number (32 bits little-endian, from 1, counting accepted events); variable count
-- (byte 4); three zero bytes; four 32-bit little-endian values by declaration, zero beyond the count."
-- The bytes are those of one record, `RowFields`, so that what a row says is told in one place.
use Rattle.std.specs.Prelude.{List, [], ◌∷◌, ◌++◌, ℕ, ◌/◌, ◌%◌}
use Rattle.laws.specs.Lists.{gather}
use Rattle.laws.specs.Parts.{pad}
use Rattle.meaning.specs.Events.{Valuation}
use Rattle.meaning.specs.Limits.{variable_limit}
use Rattle.row.specs.declared.RowFields.{RowFields}

-- "Row, 24 bytes"
abbrev pub row_size : ℕ
row_size = 24

-- "event number (32 bits little-endian …)"
abbrev pub number_size : ℕ
number_size = 4

-- a number in four bytes, the lowest first
unfoldable pub word_bytes : ℕ → List ℕ
word_bytes x = x % 256 ∷ x / 256 % 256 ∷ x / 65536 % 256 ∷ x / 16777216 % 256 ∷ []

-- the bytes of one row
unfoldable pub bytes_of : RowFields → List ℕ
bytes_of r = word_bytes r.number ++ (r.variables ∷ r.byte5 ∷ r.byte6 ∷ 0 ∷ []) ++ gather word_bytes (pad variable_limit 0 r.values)

-- the same fields with other values: rows of one event share all but these
abbrev pub with_values : RowFields → Valuation → RowFields
with_values r σ = record { number = r.number; variables = r.variables; byte5 = r.byte5; byte6 = r.byte6; values = σ }

-- a row as it is written: bytes 5 and 6 are zero
abbrev pub plain_row : (number variables : ℕ) → Valuation → RowFields
plain_row number variables σ = record { number = number; variables = variables; byte5 = 0; byte6 = 0; values = σ }

-- its bytes
unfoldable pub row_bytes : (number variables : ℕ) → Valuation → List ℕ
row_bytes number variables σ = bytes_of (plain_row number variables σ)
