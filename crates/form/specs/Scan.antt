-- Scanning: what stands at a place of a text, how far runs of spaces, words and names go, and the gap after a word.
-- Places count from 0.
use Rattle.std.specs.Prelude.{Bool, false, cond, not, ◌&&◌, ◌||◌, [], ◌∷◌, ℕ, suc, ◌+◌, ◌-◌, ◌*◌, eqb, leb, length, get_or, take, drop}
use Prim.Native.Char.{code}
use Rattle.laws.specs.Lists.{all}
use Rattle.form.specs.Limits.{kind_limit, number_limit, name_limit}
use Rattle.form.specs.Text.{Bytes, byte_count, space, lf, is_lower, is_digit, is_name_byte, number_digits}

-- what stands past the end: no byte
abbrev pub past_end : ℕ
past_end = byte_count

abbrev pub at : Bytes → ℕ → ℕ
at s p = get_or s p past_end

-- how many bytes pass the test before the first that does not
abbrev pub run : (ℕ → Bool) → Bytes → ℕ
run f [] = 0
run f (b ∷ l) = let r = suc (run f l) in cond (f b) r 0

abbrev pub is_space : ℕ → Bool
is_space b = eqb b space

-- "a word is a longest run of bytes other than space and LF" (docs/DECISIONS.md)
abbrev pub is_word_byte : ℕ → Bool
is_word_byte b = not (eqb b space) && not (eqb b lf)

-- the first place from p on that holds no space; no byte of a word; no byte of a name
unfoldable pub spaces_end : Bytes → ℕ → ℕ
spaces_end s p = p + run is_space (drop p s)

unfoldable pub word_end : Bytes → ℕ → ℕ
word_end s p = p + run is_word_byte (drop p s)

-- a name begins with a letter; where none begins, it ends where it began
unfoldable pub name_end : Bytes → ℕ → ℕ
name_end s p = cond (is_lower (at s p)) (p + run is_name_byte (drop p s)) p

-- the bytes from p up to e
abbrev pub part : Bytes → (p e : ℕ) → Bytes
part s p e = take (e - p) (drop p s)

-- what a step of the reader gives: no fault (0) and the place to go on from, or a fault's number and its place
pub record Step : Type 0 where
  pub fault : ℕ
  pub place : ℕ

abbrev pub go : ℕ → Step
go p = record { fault = 0; place = p }

abbrev pub fail : (n p : ℕ) → Step
fail n p = record { fault = n; place = p }

-- After a word that ends at p: on to the next word; or, at p itself, the line's LF; or a fault. "a space too many is 2 at that
-- space"; spaces at a line's end are 2 at the first of them; "a missing LF at the book's end".
unfoldable pub next_word : Bytes → ℕ → Step
next_word s p =
    let q = spaces_end s p in
    let b = at s q in
    cond (eqb q p) (cond (eqb b lf) (go p) (fail 2 p))
    (cond (eqb b lf || eqb b past_end) (fail 2 p) (cond (eqb q (p + 1)) (go q) (fail 2 (p + 1))))

-- the fault of the word from p to e as a name: none, "out of form", or above `name_limit`
unfoldable pub name_fault : Bytes → (p e : ℕ) → ℕ
name_fault s p e = cond (eqb (name_end s p) e) (cond (leb (e - p) name_limit) 0 3) 2

-- the value of a word of digits
abbrev pub value : ℕ → Bytes → ℕ
value n [] = n
value n (b ∷ l) = value (n * 10 + (b - code "0")) l

-- as many digits as `kind_limit` has
abbrev pub kind_digits : ℕ
kind_digits = 3

-- "KIND is 1 to 255 without leading zeros": its value, or 0 where the word from p to e is no such number
unfoldable pub kind_of : Bytes → (p e : ℕ) → ℕ
kind_of s p e =
    let w = part s p e in
    let n = value 0 w in
    cond (leb (e - p) kind_digits && all is_digit w && not (eqb (at s p) (code "0"))) (cond (leb n kind_limit) n 0) 0

-- "a number 0 to 4294967295 without extra leading zeros" (document 02, change 1): whether a word is one; the count of its digits is judged
-- before its value
abbrev pub is_number : Bytes → Bool
is_number [] = false
is_number (b ∷ w) =
    leb (length (b ∷ w)) number_digits && all is_digit (b ∷ w) && (eqb (length w) 0 || not (eqb b (code "0"))) && leb (value 0 (b ∷ w)) number_limit

-- its value, or 0 where the word from p to e is no such number
unfoldable pub fixed_number : Bytes → (p e : ℕ) → ℕ
fixed_number s p e = let w = part s p e in cond (is_number w) (value 0 w) 0
