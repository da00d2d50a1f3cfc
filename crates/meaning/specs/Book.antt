-- The book as the matcher uses it: the pattern as positions and masks (document 01, "Labels and room"), what every
-- accepted text declares ("The book"), and when a book is sound ("What a call hands back").
use Rattle.std.specs.Prelude.{◌≡◌, Bool, true, false, not, ◌&&◌, List, [], ◌∷◌, map, ℕ, suc, ◌-◌, ◌^◌, ◌≤◌, ◌<◌, eqb, leb, ltb, length, get_or}
use Rattle.std.specs.Int.Count.{ones}
use Rattle.laws.specs.Bits.{bit, join, single}
use Rattle.laws.specs.Lists.{any, all, numbers}
use Rattle.pattern.specs.Regex.{In, nullable, bound_by}
use Rattle.pattern.specs.Positions as Positions
use Rattle.meaning.specs.Limits.{variable_limit, symbol_limit, kind_limit, parameter_limit, number_limit}
use Rattle.meaning.specs.Events.{Parameter, ignored, names, fixed, Symbol}
use Rattle.meaning.specs.Meaning.{Tracematch, no_symbol}

-- document 01, "Labels and room": the pattern as numbered positions and sets of them
pub record Book : Type 0 where
  pub variables : ℕ
  pub symbols : List Symbol
  -- the symbol number of each position, position 1 first
  pub occurrences : List ℕ
  -- the positions that begin and that end a word, one bit to a position
  pub begins : ℕ
  pub ends : ℕ
  -- for each position, position 1 first, the positions that follow it
  pub follows : List ℕ
  -- "empty word admitted"
  pub empty : Bool

-- "Number the symbol occurrences from the left: positions 1 to 31. Position q follows p, begins, or ends a word in the
-- usual position-automaton sense."
unfoldable pub book_of : Tracematch → Book
book_of tm =
    let r = tm.pattern in
    record {
      variables = tm.variables;
      symbols = tm.symbols;
      occurrences = Positions.symbols r;
      begins = Positions.beginning r 1;
      ends = Positions.ending r 1;
      follows = map (Positions.following r 1) (numbers 1 (Positions.size r));
      empty = nullable r;
    }

-- the same book where a match begins at the positions of another set
abbrev pub starting_at : ℕ → Book → Book
starting_at m b =
    record {
      variables = b.variables;
      symbols = b.symbols;
      occurrences = b.occurrences;
      begins = m;
      ends = b.ends;
      follows = b.follows;
      empty = b.empty;
    }

module _ (b : Book) where
  -- "positions 1 to 31": those that the book has
  abbrev pub positions : List ℕ
  positions = numbers 1 (length b.occurrences)

  -- "Position q … begins … a word"
  abbrev pub begins_at : ℕ → Bool
  begins_at p = bit p b.begins

  -- "Position q … ends a word"
  abbrev pub ends_at : ℕ → Bool
  ends_at p = bit p b.ends

  -- the positions that follow p, "one bit to a position"
  abbrev pub followers : ℕ → ℕ
  followers p = get_or b.follows (p - 1) 0

  -- position q follows position p
  abbrev pub follows_at : (p q : ℕ) → Bool
  follows_at p q = bit q (followers p)

  -- something follows position p
  abbrev pub goes_on : ℕ → Bool
  goes_on p = not (eqb (followers p) 0)

  -- the symbol whose occurrence position p is
  abbrev pub symbol_of : ℕ → Symbol
  symbol_of p = get_or b.symbols (get_or b.occurrences (p - 1) 0) no_symbol

-- "the book's answer also counts its beginning and its ending positions": "counts of ones of the 32-bit position masks"
abbrev pub begin_count : Book → ℕ
begin_count b = ones b.begins

-- "… and its ending positions"
abbrev pub end_count : Book → ℕ
end_count b = ones b.ends

-- the variable a place binds
abbrev pub binds : ℕ → Parameter → Bool
binds v ignored = false
binds v (names u) = eqb v u
binds v (fixed n) = false

-- the variables that a symbol binds, one bit to a variable
abbrev pub bound_in : List Parameter → ℕ
bound_in [] = 0
bound_in (ignored ∷ ps) = bound_in ps
bound_in (names v ∷ ps) = join (single v) (bound_in ps)
bound_in (fixed n ∷ ps) = bound_in ps

-- "KIND is 1 to 255 … ARGS are 0 to 4 words, each a declared variable or `_`", or (document 02, change 1) "`=` and a number 0 to 4294967295"
abbrev pub sound_parameter : ℕ → Parameter → Bool
sound_parameter variables ignored = true
sound_parameter variables (names v) = ltb v variables
sound_parameter variables (fixed n) = leb n number_limit

-- a symbol with every number "in its declared range"
unfoldable pub sound_symbol : ℕ → Symbol → Bool
sound_symbol variables s =
    leb 1 s.kind && leb s.kind kind_limit && leb (length s.parameters) parameter_limit && all (sound_parameter variables) s.parameters

-- What every accepted text declares: "0 to 4 variable names", "1 to 16 lines `sym NAME KIND ARGS`", declared names in the
-- pattern, "At most 31 symbol occurrences", "No word of the pattern may be empty, and each word must contain, for each
-- variable, a symbol that binds it."
pub record Proper (tm : Tracematch) : Type 0 where
  pub variables : tm.variables ≤ variable_limit
  pub some : 1 ≤ length tm.symbols
  pub few : length tm.symbols ≤ symbol_limit
  pub symbols : all (sound_symbol tm.variables) tm.symbols ≡ true
  pub declared : all (λ a. ltb a (length tm.symbols)) (Positions.symbols tm.pattern) ≡ true
  pub occurrences : Positions.size tm.pattern ≤ Positions.occurrence_limit
  pub nonempty : In tm.pattern [] → ⊥
  pub binding : (v : ℕ) → v < tm.variables → (w : List ℕ) → In tm.pattern w
      → any (λ a. any (binds v) (get_or tm.symbols a no_symbol).parameters) w ≡ true

-- the same, computed: the flag of the empty word and the mask of bound variables decide what `Proper` says of words
unfoldable pub is_proper : Tracematch → Bool
is_proper tm =
    leb tm.variables variable_limit && leb 1 (length tm.symbols) && leb (length tm.symbols) symbol_limit
    && all (sound_symbol tm.variables) tm.symbols
    && all (λ a. ltb a (length tm.symbols)) (Positions.symbols tm.pattern)
    && leb (Positions.size tm.pattern) Positions.occurrence_limit
    && not (nullable tm.pattern)
    && all (λ v. bit v (bound_by (λ a. bound_in (get_or tm.symbols a no_symbol).parameters) tm.pattern)) (numbers 0 tm.variables)

-- a set of positions 1 to n
abbrev pub sound_mask : ℕ → ℕ → Bool
sound_mask n m = ltb m (2 ^ suc n) && not (bit 0 m)

-- "Sound means: at least one position, every number in its declared range, no empty word": the book's share of it
unfoldable pub sound_book : Book → Bool
sound_book b =
    let n = length b.occurrences in
    leb b.variables variable_limit && leb 1 (length b.symbols) && leb (length b.symbols) symbol_limit
    && all (sound_symbol b.variables) b.symbols
    && leb 1 n && leb n Positions.occurrence_limit
    && all (λ a. ltb a (length b.symbols)) b.occurrences
    && sound_mask n b.begins && sound_mask n b.ends
    && eqb (length b.follows) n && all (sound_mask n) b.follows
    && not b.empty
