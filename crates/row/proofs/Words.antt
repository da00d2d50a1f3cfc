-- "Row, 24 bytes, no header: event number (32 bits little-endian, from 1, counting accepted events); variable count (byte 4); three zero bytes; four
-- 32-bit little-endian values by declaration, zero beyond the count.": every byte of a row, of any number and any values, for each number of values.
use mathlib.Core.Path.{◌≡◌, refl}
use mathlib.Core.List.{List, [], ◌∷◌, ◌++◌}
use Prim.Native.Nat.{ℕ, ◌/◌, ◌%◌}
use lib.ListN.{replicate}
use Rattle.laws.specs.Parts.{pad}
use Rattle.row.specs.RowBytes.{word_bytes, bytes_of, row_bytes}

pub row_words : (n v a b c d : ℕ)
    → let word : ℕ → List ℕ = λ x. x % 256 ∷ x / 256 % 256 ∷ x / 65536 % 256 ∷ x / 16777216 % 256 ∷ [] in
    let head = word n ++ (v ∷ 0 ∷ 0 ∷ 0 ∷ []) in
    (row_bytes n v [] ≡ head ++ replicate 16 0)
    × (row_bytes n v (a ∷ []) ≡ head ++ (word a ++ replicate 12 0))
    × (row_bytes n v (a ∷ b ∷ []) ≡ head ++ (word a ++ (word b ++ replicate 8 0)))
    × (row_bytes n v (a ∷ b ∷ c ∷ []) ≡ head ++ (word a ++ (word b ++ (word c ++ replicate 4 0))))
    × (row_bytes n v (a ∷ b ∷ c ∷ d ∷ []) ≡ head ++ (word a ++ (word b ++ (word c ++ word d))))
unfolding row_bytes bytes_of word_bytes pad
row_words n v a b c d = (refl, refl, refl, refl, refl)

-- the same of any fields, whatever stands in bytes 5 and 6
pub fields_words : (n v x y a b c d : ℕ)
    → let word : ℕ → List ℕ = λ z. z % 256 ∷ z / 256 % 256 ∷ z / 65536 % 256 ∷ z / 16777216 % 256 ∷ [] in
    let head = word n ++ (v ∷ x ∷ y ∷ 0 ∷ []) in
    let row : List ℕ → List ℕ = λ l. bytes_of (record { number = n; variables = v; byte5 = x; byte6 = y; values = l }) in
    (row [] ≡ head ++ replicate 16 0)
    × (row (a ∷ []) ≡ head ++ (word a ++ replicate 12 0))
    × (row (a ∷ b ∷ []) ≡ head ++ (word a ++ (word b ++ replicate 8 0)))
    × (row (a ∷ b ∷ c ∷ []) ≡ head ++ (word a ++ (word b ++ (word c ++ replicate 4 0))))
    × (row (a ∷ b ∷ c ∷ d ∷ []) ≡ head ++ (word a ++ (word b ++ (word c ++ word d))))
unfolding bytes_of word_bytes pad
fields_words n v x y a b c d = (refl, refl, refl, refl, refl)
