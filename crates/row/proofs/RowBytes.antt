-- The bytes of rows, whatever their fields: 24 to each, the same for a valuation and for the four words that hold it, and one after the
-- other. For the functions of this crate and for the event call.
use mathlib.Core.Path.{◌≡◌, refl, ◌∙◌}
use mathlib.Core.List.{[], ◌∷◌}
use Prim.Native.Nat.{ℕ, ◌≤◌}
use native.Mathlib.Omega.{arith}
use lib.ListN.{length, get_or, length-append}
use Rattle.laws.specs.Parts.{pad}
use Rattle.laws.proofs.Parts.{pad_length, pad_full}
use Rattle.laws.proofs.Arrays.{by_index}
use Rattle.laws.proofs.Fronts.{gather_length}
use Rattle.meaning.specs.Events.{Valuation}
use Rattle.row.specs.RowBytes.{word_bytes, bytes_of, with_values, plain_row, row_bytes}
use Rattle.row.specs.declared.RowFields.{RowFields}

pub word_length : (x : ℕ) → length (word_bytes x) ≡ 4
unfolding word_bytes
word_length x = refl

pub bytes_length : (r : RowFields) → length r.values ≤ 4 → length (bytes_of r) ≡ 24
unfolding bytes_of
bytes_length r h =
    simp length-append
    (omega (arith, word_length r.number, gather_length word_bytes 4 (pad 4 0 r.values) (λ x m. word_length x), pad_length 4 0 r.values h))

pub bytes_wide : (r : RowFields) → length r.values ≤ 4 → bytes_of (with_values r (pad 4 0 r.values)) ≡ bytes_of r
unfolding bytes_of
bytes_wide r h = rw (pad_full 4 0 (pad 4 0 r.values) (omega (arith, pad_length 4 0 r.values h)))

-- the same of a row of one book alone
pub row_length : (number variables : ℕ) (σ : Valuation) → length σ ≤ 4 → length (row_bytes number variables σ) ≡ 24
unfolding row_bytes
row_length number variables σ = bytes_length (plain_row number variables σ)

pub row_wide : (number variables : ℕ) (σ : Valuation) → length σ ≤ 4 → row_bytes number variables (pad 4 0 σ) ≡ row_bytes number variables σ
unfolding row_bytes
row_wide number variables σ = bytes_wide (plain_row number variables σ)

-- the values of a row of four words, written out
pub four_words : (x : Valuation) → length x ≡ 4 → pad 4 0 x ≡ get_or x 0 0 ∷ get_or x 1 0 ∷ get_or x 2 0 ∷ get_or x 3 0 ∷ []
four_words x h = pad_full 4 0 x (omega arith) ∙ by_index 0 x 4 h
