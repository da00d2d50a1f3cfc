-- Lines, words and tokens of a text, by their places: what stands before a place, reading from the left. For Fault.
use Rattle.std.specs.Prelude.{◌≡◌, Bool, true, false, cond, ◌&&◌, List, [], ◌∷◌, ◌++◌, ◌⊎◌, ℕ, suc, ◌+◌, ◌≤◌, ◌<◌, eqb, length, take}
use Rattle.laws.specs.Lists.{keep}
use Rattle.pattern.specs.Regex.{Regex}
use Rattle.form.specs.Text.{Bytes, space, lf, is_lower, is_name_byte, match_word}
use Rattle.form.specs.Tokens.{Token, name, sign, tokens}
use Rattle.form.specs.Phrase.{Phrase, alternation}
use Rattle.form.specs.Scan.{at, part, is_space, is_word_byte, word_end, name_end}

-- What lies before a place: the number of its line (from 0), how many words have begun on that line, and whether the byte before
-- belongs to a word ("a word is a longest run of bytes other than space and LF", docs/DECISIONS.md).
pub record Spot : Type 0 where
  pub line : ℕ
  pub words : ℕ
  pub inside : Bool

abbrev pub outset : Spot
outset = record { line = 0; words = 0; inside = false }

-- behind one byte more
abbrev pub passed : Spot → ℕ → Spot
passed x b =
    let begun : ℕ = cond x.inside x.words (suc x.words) in
    let word : Spot = record { line = x.line; words = begun; inside = true } in
    let gap : Spot = record { line = x.line; words = x.words; inside = false } in
    cond (eqb b lf) (record { line = suc x.line; words = 0; inside = false }) (cond (eqb b space) gap word)

abbrev pub passed_all : Spot → Bytes → Spot
passed_all x [] = x
passed_all x (b ∷ l) = passed_all (passed x b) l

unfoldable pub spot_at : Bytes → ℕ → Spot
spot_at s p = passed_all outset (take p s)

-- the place p is on line k
abbrev pub On : Bytes → (k p : ℕ) → Type 0
On s k p = (spot_at s p).line ≡ k

-- a line ends at p, with its LF or with the book
abbrev pub Ends : Bytes → ℕ → Type 0
Ends s p = (at s p ≡ lf) ⊎ (p ≡ length s)

-- word number i (from 0) of line k begins at p
pub record Word (s : Bytes) (k i p : ℕ) : Type 0 where
  pub present : p < length s
  pub byte : is_word_byte (at s p) ≡ true
  pub spot : spot_at s p ≡ record { line = k; words = i; inside = false }

-- the bytes of the word that begins at p
abbrev pub word_at : Bytes → ℕ → Bytes
word_at s p = part s p (word_end s p)

-- of the lines from 1 up to, but not with, line k none has `match` for its first word: the pattern's line does not stand before line k
abbrev pub NoMatch : Bytes → ℕ → Type 0
NoMatch s k = (j q : ℕ) → 1 ≤ j → j < k → Word s j 0 q → word_at s q ≡ match_word → ⊥

-- line k is line 0, or no pattern's line stands before it and it is none itself
abbrev pub Header : Bytes → ℕ → Type 0
Header s k = NoMatch s (suc k)

-- line k is the pattern's: the first, behind line 0, whose first word is `match`; this word stands at p
pub record PatternLine (s : Bytes) (k p : ℕ) : Type 0 where
  pub word : Word s k 0 p
  pub match : word_at s p ≡ match_word
  pub behind : 1 ≤ k
  pub first : NoMatch s k

-- whether bytes end in a name that may go on: "read as long as it goes"
abbrev pub in_name : Bool → Bytes → Bool
in_name o [] = o
in_name o (b ∷ l) = in_name (cond o (is_name_byte b) (is_lower b)) l

-- The bytes of the pattern before q, where `match` stands at p: behind that word and a space.
abbrev pub pattern_bytes : Bytes → (p q : ℕ) → Bytes
pattern_bytes s p q = part s (p + (length match_word + 1)) q

-- a token begins at q: a byte of the pattern's line that is no space and does not go on with a name
pub record TokenAt (s : Bytes) (k p q : ℕ) : Type 0 where
  pub behind : p + (length match_word + 1) ≤ q
  pub present : q < length s
  pub on : On s k q
  pub in_line : at s q ≡ lf → ⊥
  pub byte : is_space (at s q) ≡ false
  pub begins : (in_name false (pattern_bytes s p q) && is_name_byte (at s q)) ≡ false

-- the tokens before q; the name that begins at q; the token that begins at q
abbrev pub before : Bytes → (p q : ℕ) → List Token
before s p q = tokens (pattern_bytes s p q)

abbrev pub name_at : Bytes → ℕ → Bytes
name_at s q = part s q (name_end s q)

abbrev pub token_at : Bytes → ℕ → Token
token_at s q = let b = at s q in cond (is_lower b) (name (name_at s q)) (sign b)

-- how many names there are among tokens, and how many signs b
abbrev pub is_name : Token → Bool
is_name (name w) = true
is_name (sign b) = false

abbrev pub is_sign : ℕ → Token → Bool
is_sign b (name w) = false
is_sign b (sign c) = eqb c b

abbrev pub occurrences : List Token → ℕ
occurrences ts = length (keep is_name ts)

abbrev pub signs : ℕ → List Token → ℕ
signs b ts = length (keep (is_sign b) ts)

-- the tokens are a pattern of some names, whatever its depth and its occurrences; they begin one
abbrev pub Pattern : List Token → Type 0
Pattern ts = (names : List Bytes) × (d : ℕ) × (r : Regex) × Phrase names alternation d ts r

abbrev pub Begins : List Token → Type 0
Begins ts = (us : List Token) × Pattern (ts ++ us)
