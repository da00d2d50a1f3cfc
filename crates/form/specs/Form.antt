-- A text of the stated form, whole: document 01, "The book". Nothing here follows the reader's course.
use Rattle.std.specs.Prelude.{◌≡◌, Bool, true, false, not, ◌&&◌, List, [], ◌∷◌, ◌++◌, map, eqb, length, get_or}
use Prim.Native.Nat.{ℕ, compare, ◌≤◌, ◌<◌}
use Rattle.laws.specs.Lists.{any, all}
use Rattle.laws.specs.Order.{is_same, lex}
use Rattle.pattern.specs.Regex.{Regex, In}
use Rattle.pattern.specs.Positions.{size, occurrence_limit}
use Rattle.meaning.specs.Meaning.{no_symbol}
use Rattle.meaning.specs.Book as Book
use Rattle.meaning.specs.Book.{sound_symbol}
use Rattle.form.specs.Limits.{text_limit, variable_limit, symbol_limit, open_limit}
use Rattle.form.specs.Text.{Bytes, lf, is_name, Declarations, text, symbol_of}
use Rattle.form.specs.Tokens.{tokens}
use Rattle.form.specs.Phrase.{Phrase, alternation}

-- whether two words are the same bytes
abbrev pub same_word : Bytes → Bytes → Bool
same_word v w = is_same (lex compare v w)

-- no name stands twice: "Variables and symbols share one set of names."
abbrev pub distinct : List Bytes → Bool
distinct [] = true
distinct (w ∷ ws) = not (any (same_word w) ws) && distinct ws

-- the names of the symbols, and all names by their numbers ("variables from 0, then symbols")
abbrev pub symbol_names : Declarations → List Bytes
symbol_names d = map (λ l. l.name) d.symbols

abbrev pub all_names : Declarations → List Bytes
all_names d = d.variables ++ symbol_names d

-- whether the symbol with number a binds variable v
abbrev pub binds : Declarations → (v a : ℕ) → Bool
binds d v a = any (Book.binds v) (get_or (map symbol_of d.symbols) a no_symbol).parameters

-- The text s declares d and writes the pattern r, within the limits: all of "The book" but its last sentence on words.
pub record Shape (s : Bytes) (d : Declarations) (r : Regex) : Type 0 where
  pub short : length s ≤ text_limit
  -- the bytes between `match`, a space, and the last LF
  pub written : Bytes
  pub one_line : any (eqb lf) written ≡ false
  pub text : s ≡ text d written
  pub named : all is_name (all_names d) ≡ true
  pub distinct : distinct (all_names d) ≡ true
  -- "0 to 4 variable names", "1 to 16 lines", kinds, counts of arguments and their variables
  pub few_variables : length d.variables ≤ variable_limit
  pub some_symbols : 1 ≤ length d.symbols
  pub few_symbols : length d.symbols ≤ symbol_limit
  pub symbols : all (λ l. sound_symbol (length d.variables) (symbol_of l)) d.symbols ≡ true
  pub phrase : Phrase (symbol_names d) alternation open_limit (tokens written) r
  pub occurrences : size r ≤ occurrence_limit

-- The same with the last sentence: "No word of the pattern may be empty, and each word must contain, for each variable, a
-- symbol that binds it."
pub record Form (s : Bytes) (d : Declarations) (r : Regex) : Type 0 where
  pub shape : Shape s d r
  pub nonempty : In r [] → ⊥
  pub binding : (v : ℕ) → v < length d.variables → (w : List ℕ) → In r w → any (binds d v) w ≡ true
