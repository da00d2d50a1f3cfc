-- The positions of a pattern: its symbol occurrences, numbered from the left from 1. Document 01, "Labels and room":
-- position q follows p, begins, or ends a word in the usual position-automaton sense; sets of positions are kept one
-- bit to a position. Every function takes the number k of the leftmost occurrence; a whole pattern has k = 1.
use Rattle.std.specs.Prelude.{◌≡◌, Bool, true, false, cond, List, [], ◌∷◌, ◌++◌, map, ℕ, ◌+◌, ltb}
use Rattle.laws.specs.Bits.{bit, join, single}
use Rattle.pattern.specs.Regex.{Regex, lit, cat, alt, star, plus, opt, nullable}

-- "At most 31 symbol occurrences", "positions 1 to 31"
abbrev pub occurrence_limit : ℕ
occurrence_limit = 31

-- how many occurrences r has
abbrev pub size : Regex → ℕ
size (lit a) = 1
size (cat r s) = size r + size s
size (alt r s) = size r + size s
size (star r) = size r
size (plus r) = size r
size (opt r) = size r

-- the symbols of the occurrences, from the left
abbrev pub symbols : Regex → List ℕ
symbols (lit a) = a ∷ []
symbols (cat r s) = symbols r ++ symbols s
symbols (alt r s) = symbols r ++ symbols s
symbols (star r) = symbols r
symbols (plus r) = symbols r
symbols (opt r) = symbols r

-- the mask m where the test passes, and the empty set where it fails
abbrev pub given : Bool → ℕ → ℕ
given true m = m
given false m = 0

-- the positions that begin a word
abbrev pub beginning : Regex → ℕ → ℕ
beginning (lit a) k = single k
beginning (cat r s) k = join (beginning r k) (given (nullable r) (beginning s (k + size r)))
beginning (alt r s) k = join (beginning r k) (beginning s (k + size r))
beginning (star r) k = beginning r k
beginning (plus r) k = beginning r k
beginning (opt r) k = beginning r k

-- the positions that end a word
abbrev pub ending : Regex → ℕ → ℕ
ending (lit a) k = single k
ending (cat r s) k = join (given (nullable s) (ending r k)) (ending s (k + size r))
ending (alt r s) k = join (ending r k) (ending s (k + size r))
ending (star r) k = ending r k
ending (plus r) k = ending r k
ending (opt r) k = ending r k

-- the positions that follow position p
abbrev pub following : Regex → ℕ → ℕ → ℕ
following (lit a) k p = 0
following (cat r s) k p =
    cond (ltb p (k + size r))
    (join (following r k p) (given (bit p (ending r k)) (beginning s (k + size r))))
    (following s (k + size r) p)
following (alt r s) k p = cond (ltb p (k + size r)) (following r k p) (following s (k + size r) p)
following (star r) k p = join (following r k p) (given (bit p (ending r k)) (beginning r k))
following (plus r) k p = join (following r k p) (given (bit p (ending r k)) (beginning r k))
following (opt r) k p = following r k p

-- the symbol of position p
abbrev pub symbol_at : Regex → ℕ → ℕ → ℕ
symbol_at (lit a) k p = a
symbol_at (cat r s) k p = cond (ltb p (k + size r)) (symbol_at r k p) (symbol_at s (k + size r) p)
symbol_at (alt r s) k p = cond (ltb p (k + size r)) (symbol_at r k p) (symbol_at s (k + size r) p)
symbol_at (star r) k p = symbol_at r k p
symbol_at (plus r) k p = symbol_at r k p
symbol_at (opt r) k p = symbol_at r k p

-- position p is in the set m
abbrev pub Has : ℕ → ℕ → Type 0
Has p m = bit p m ≡ true

-- `Onward r p ps`: from position p the positions ps follow, step by step, and the last of them (p itself where there
-- is none) ends a word
pub data Onward (r : Regex) : ℕ → List ℕ → Type 0 where
  stop : {p : ℕ} → Has p (ending r 1) → Onward r p []
  on : {p q : ℕ} {ps : List ℕ} → Has q (following r 1 p) → Onward r q ps → Onward r p (q ∷ ps)

-- a path of positions that begins, follows step by step and ends, and spells the word w
pub record Spelling (r : Regex) (w : List ℕ) : Type 0 where
  pub at : ℕ
  pub rest : List ℕ
  pub begins : Has at (beginning r 1)
  pub onward : Onward r at rest
  pub spells : w ≡ map (symbol_at r 1) (at ∷ rest)

-- the same from the left: `Reach r w p`, the word w, its newest symbol first, is spelled by a path that begins and
-- has come to position p
pub data Reach (r : Regex) : List ℕ → ℕ → Type 0 where
  start : {p : ℕ} → Has p (beginning r 1) → Reach r (symbol_at r 1 p ∷ []) p
  next : {w : List ℕ} {p q : ℕ} → Reach r w p → Has q (following r 1 p) → Reach r (symbol_at r 1 q ∷ w) q
