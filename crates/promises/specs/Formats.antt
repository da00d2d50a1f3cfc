-- Records and rows in numbers, byte by byte: document 01, "Event record", "Row". No word of the event call is used here, so that what is promised of
-- lists of results begins at the bytes that were lent and ends at those that were left.
use Rattle.std.specs.Prelude.{◌≡◌, List, [], ◌∷◌, ℕ, ◌+◌, ◌*◌, ◌/◌, ◌%◌, ◌≤◌, ◌<◌, length, get_or, take}
use Rattle.meaning.specs.Events.{Event, Valuation}
use Rattle.form.specs.Text.{Bytes}

-- four bytes from p on, little-endian
abbrev pub word_from : Bytes → ℕ → ℕ
word_from s p = get_or s p 0 + get_or s (p + 1) 0 * 256 + get_or s (p + 2) 0 * 65536 + get_or s (p + 3) 0 * 16777216

-- "Event record, 20 bytes, no header: byte 0 kind (1 to 255); byte 1 argument count (0 to 4); bytes 2 and 3 zero; four unsigned 32-bit little-endian
-- arguments, zero beyond the count."
pub record InRecord (s : Bytes) : Type 0 where
  pub size : length s ≡ 20
  pub kind : 1 ≤ get_or s 0 0
  pub count : get_or s 1 0 ≤ 4
  pub zeros : (get_or s 2 0 ≡ 0) × (get_or s 3 0 ≡ 0)
  pub beyond : (k : ℕ) → get_or s 1 0 ≤ k → k < 4 → word_from s (4 + 4 * k) ≡ 0

-- the event that it holds
abbrev pub event_of_bytes : Bytes → Event
event_of_bytes s = record { kind = get_or s 0 0; args = take (get_or s 1 0) (word_from s 4 ∷ word_from s 8 ∷ word_from s 12 ∷ word_from s 16 ∷ []) }

-- x stands in four bytes from p on, little-endian
pub record WordAt (s : Bytes) (p x : ℕ) : Type 0 where
  pub lowest : get_or s p 0 ≡ x % 256
  pub second : get_or s (p + 1) 0 ≡ x / 256 % 256
  pub third : get_or s (p + 2) 0 ≡ x / 65536 % 256
  pub highest : get_or s (p + 3) 0 ≡ x / 16777216 % 256

-- "Row, 24 bytes, no header: event number (32 bits little-endian, from 1, counting accepted events); variable count (byte 4); three zero bytes; four
-- 32-bit little-endian values by declaration, zero beyond the count."
pub record RowAt (s : Bytes) (p n v : ℕ) (σ : Valuation) : Type 0 where
  pub number : WordAt s p n
  pub variables : get_or s (p + 4) 0 ≡ v
  pub zeros : (get_or s (p + 5) 0 ≡ 0) × (get_or s (p + 6) 0 ≡ 0) × (get_or s (p + 7) 0 ≡ 0)
  pub first : WordAt s (p + 8) (get_or σ 0 0)
  pub second : WordAt s (p + 12) (get_or σ 1 0)
  pub third : WordAt s (p + 16) (get_or σ 2 0)
  pub fourth : WordAt s (p + 20) (get_or σ 3 0)

-- "Rows go into the lent buffer from a given place on; bytes before that place and after the last row stay"
pub record RowsIn (buffer after : Bytes) (place number variables : ℕ) (l : List Valuation) : Type 0 where
  pub fitting : place + 24 * length l ≤ length buffer
  pub size : length after ≡ length buffer
  pub before : (i : ℕ) → i < place → get_or after i 0 ≡ get_or buffer i 0
  pub within : (j : ℕ) → j < length l → RowAt after (place + 24 * j) number variables (get_or l j [])
  pub behind : (i : ℕ) → place + 24 * length l ≤ i → get_or after i 0 ≡ get_or buffer i 0
