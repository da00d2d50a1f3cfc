-- The bytes 4 to 23 of a row, those behind its event number, as they stand in a buffer: they are a function of the other fields alone.
-- For Crossed, whose rows are those of one book alone.
use mathlib.Core.Path.{◌≡◌, refl}
use mathlib.Core.List.{List, [], ◌∷◌, ◌++◌, append_assoc, Memᴰ}
use Prim.Native.Nat.{ℕ, zero, suc, ◌+◌, ◌-◌, ◌*◌, ◌≤◌, ◌<◌}
use native.Mathlib.Omega.{arith}
use lib.ListN.{length, take, drop, get_or}
use lib.Seq.{take_at, drop_at, drop-append-add, length-take-le}
use Rattle.laws.specs.Lists.{gather}
use Rattle.laws.specs.Parts.{front, splice, pad}
use Rattle.laws.proofs.Parts.{pad_length}
use Rattle.meaning.specs.Events.{Valuation}
use Rattle.form.specs.Text.{Bytes}
use Rattle.row.specs.RowBytes.{row_size, number_size, word_bytes, bytes_of, with_values, plain_row, row_bytes}
use Rattle.row.specs.declared.RowFields.{RowFields}
use Rattle.laws.proofs.Fronts.{gather_length}
use Rattle.row.proofs.RowBytes.{word_length, bytes_length}

-- variable count, bytes 5 and 6, a zero, four values
unfoldable pub tail : (variables byte5 byte6 : ℕ) → Valuation → Bytes
tail v x y σ = (v ∷ x ∷ y ∷ 0 ∷ []) ++ gather word_bytes (pad 4 0 σ)

tail_length : (v x y : ℕ) (σ : Valuation) → length σ ≤ 4 → length (tail v x y σ) ≡ 20
unfolding tail
tail_length v x y σ h = omega (arith, gather_length word_bytes 4 (pad 4 0 σ) (λ w m. word_length w), pad_length 4 0 σ h)

module _ (r : RowFields) where
  row_split : (σ : Valuation) → bytes_of (with_values r σ) ≡ word_bytes r.number ++ tail r.variables r.byte5 r.byte6 σ
  unfolding bytes_of tail word_bytes
  row_split σ = refl

  -- in the bytes of rows
  rows_tail : (l : List Valuation) → ((σ : Valuation) → Memᴰ σ l → length σ ≤ 4) → (rest : Bytes) (i : ℕ) → i < length l
      → take (row_size - number_size) (drop (row_size * i + number_size) (gather (λ σ. bytes_of (with_values r σ)) l ++ rest))
      ≡ tail r.variables r.byte5 r.byte6 (get_or l i [])
  rows_tail [] few rest i h = absurd (omega arith)
  rows_tail (σ ∷ l) few rest zero h =
      let number = word_bytes r.number in
      let others = tail r.variables r.byte5 r.byte6 σ in
      rw (row_split σ, append_assoc (number ++ others), append_assoc number, drop_at number _ 4 (word_length r.number))
      (take_at others _ 20 (tail_length _ _ _ σ (few σ (Memᴰ.head refl))))
  rows_tail (σ ∷ l) few rest (suc i) h =
      let row = bytes_of (with_values r σ) in
      let size : length row + (row_size * i + 4) ≡ row_size * suc i + 4 =
      omega (arith, bytes_length (with_values r σ) (few σ (Memᴰ.head refl))) in
      rw (← size, append_assoc, drop-append-add row) (rows_tail l (λ τ m. few τ (Memᴰ.tail m)) rest i (omega arith))

  -- in a buffer from a place on
  pub buffer_tail : (l : List Valuation) → ((σ : Valuation) → Memᴰ σ l → length σ ≤ 4) → (place : ℕ) (buffer : Bytes)
      → place ≤ length buffer → (i : ℕ) → i < length l
      → take (row_size - number_size) (drop (place + row_size * i + number_size) (splice place (gather (λ σ. bytes_of (with_values r σ)) l) buffer))
      ≡ tail r.variables r.byte5 r.byte6 (get_or l i [])
  unfolding splice front
  buffer_tail l few place buffer h i k =
      let start : length (take place buffer) + (row_size * i + 4) ≡ place + row_size * i + 4 = omega (arith, length-take-le place buffer h) in
      rw (← start, drop-append-add) (rows_tail l few _ i k)

-- the same of rows of one book alone
pub plain_tail : (n v : ℕ) (l : List Valuation) → ((σ : Valuation) → Memᴰ σ l → length σ ≤ 4) → (place : ℕ) (buffer : Bytes)
    → place ≤ length buffer → (i : ℕ) → i < length l
    → take (row_size - number_size) (drop (place + row_size * i + number_size) (splice place (gather (row_bytes n v) l) buffer)) ≡ tail v 0 0 (get_or l i [])
unfolding row_bytes
plain_tail n v = buffer_tail (plain_row n v [])
