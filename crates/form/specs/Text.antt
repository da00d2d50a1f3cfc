-- Declarations and the text that writes them: document 01, "The book"; document 02, change 1. The pattern is written apart (Tokens, Phrase).
use Rattle.std.specs.Prelude.{Bool, false, cond, ◌&&◌, ◌||◌, List, [], ◌∷◌, ◌++◌, map, ℕ, zero, suc, ◌+◌, ◌-◌, ◌/◌, ◌%◌, leb, ltb, length, get_or}
use Prim.Native.Char.{code}
use Prim.Native.String.{String}
use Rattle.laws.specs.Lists.{all, gather}
use Rattle.pattern.specs.Regex.{Regex}
use Rattle.meaning.specs.Events.{Parameter, ignored, names, fixed, Symbol}
use Rattle.meaning.specs.Meaning.{Tracematch}
use Rattle.form.specs.Limits.{name_limit}

-- a text, a line, a word, a name: bytes
abbrev pub Bytes : Type 0
Bytes = List ℕ

-- the bytes of a text that is written out here: its characters' codes
abbrev pub ascii : String → Bytes
ascii String.[] = []
ascii (String.◌∷◌ c s) = code c ∷ ascii s

-- how many bytes there are
abbrev pub byte_count : ℕ
byte_count = 256

-- every element is a byte, as it is in any lent text
abbrev pub is_bytes : Bytes → Bool
is_bytes s = all (λ b. ltb b byte_count) s

abbrev pub space : ℕ
space = code " "

-- "Each line ends with LF (byte 10)."
abbrev pub lf : ℕ
lf = 10

abbrev pub between : ℕ → ℕ → ℕ → Bool
between low high b = leb low b && leb b high

-- a to z
abbrev pub is_lower : ℕ → Bool
is_lower b = between (code "a") (code "z") b

-- 0 to 9
abbrev pub is_digit : ℕ → Bool
is_digit b = between (code "0") (code "9") b

abbrev pub is_name_byte : ℕ → Bool
is_name_byte b = is_lower b || is_digit b

-- "A name is a to z, then a to z or 0 to 9, 1 to 12 bytes"
abbrev pub is_name : Bytes → Bool
is_name [] = false
is_name (b ∷ w) = is_lower b && all is_name_byte w && leb (length w) (name_limit - 1)

-- the words of the format
abbrev pub vars_word : Bytes
vars_word = ascii "vars"

abbrev pub sym_word : Bytes
sym_word = ascii "sym"

abbrev pub match_word : Bytes
match_word = ascii "match"

-- `_` ("that argument is ignored")
abbrev pub ignored_word : Bytes
ignored_word = ascii "_"

-- "An argument word may be `=` and a number" (document 02, change 1): the sign
abbrev pub fixed_sign : ℕ
fixed_sign = code "="

-- the digit of a number below 10
abbrev pub digit : ℕ → ℕ
digit n = code "0" + n

-- a number of at most so many digits in decimal, without extra leading zeros: those of its tenth, then its last
abbrev pub decimal_in : (digits n : ℕ) → Bytes
decimal_in zero n = []
decimal_in (suc k) n = let more = decimal_in k (n / 10) ++ (digit (n % 10) ∷ []) in cond (ltb n 10) (digit n ∷ []) more

-- as many digits as `number_limit` has
abbrev pub number_digits : ℕ
number_digits = 10

-- a number up to `number_limit` in decimal
unfoldable pub decimal : ℕ → Bytes
decimal n = decimal_in number_digits n

-- one line `sym NAME KIND ARGS`
pub record SymbolLine : Type 0 where
  pub name : Bytes
  pub kind : ℕ
  pub parameters : List Parameter

-- what the lines before the pattern declare
pub record Declarations : Type 0 where
  pub variables : List Bytes
  pub symbols : List SymbolLine

-- "Words are divided by one space, none at a line's end": each word behind a space
abbrev pub spaced : List Bytes → Bytes
spaced [] = []
spaced (w ∷ ws) = space ∷ w ++ spaced ws

-- an argument word: "each a declared variable or `_`"; "`=` and a number" (document 02, change 1)
abbrev pub parameter_word : List Bytes → Parameter → Bytes
parameter_word variables ignored = ignored_word
parameter_word variables (names v) = get_or variables v []
parameter_word variables (fixed n) = fixed_sign ∷ decimal n

-- "First line: `vars`, then 0 to 4 variable names."
abbrev pub vars_line : List Bytes → Bytes
vars_line variables = vars_word ++ (spaced variables ++ (lf ∷ []))

-- "Then 1 to 16 lines `sym NAME KIND ARGS`."
abbrev pub sym_line : List Bytes → SymbolLine → Bytes
sym_line variables l = sym_word ++ (spaced (l.name ∷ decimal l.kind ∷ map (parameter_word variables) l.parameters) ++ (lf ∷ []))

-- "Last line: `match`, a space, a pattern. Nothing follows it."
abbrev pub match_line : Bytes → Bytes
match_line p = match_word ++ (space ∷ p ++ (lf ∷ []))

-- the lines before the last
unfoldable pub header : Declarations → Bytes
header d = vars_line d.variables ++ gather (sym_line d.variables) d.symbols

unfoldable pub text : Declarations → Bytes → Bytes
text d p = header d ++ match_line p

-- the tracematch that declarations and a pattern make
abbrev pub symbol_of : SymbolLine → Symbol
symbol_of l = record { kind = l.kind; parameters = l.parameters }

abbrev pub tracematch_of : Declarations → Regex → Tracematch
tracematch_of d r = record { variables = length d.variables; symbols = map symbol_of d.symbols; pattern = r }

-- the part of a text where a name stands
pub record Span : Type 0 where
  pub start : ℕ
  pub size : ℕ

-- the declaring places of variables, when the first stands at p: one behind the other, a space between
abbrev pub variable_spans : ℕ → List Bytes → List Span
variable_spans p [] = []
variable_spans p (w ∷ ws) = record { start = p; size = length w } ∷ variable_spans (p + length w + 1) ws

-- the declaring places of symbols, when the first line begins at p: behind `sym` and a space
abbrev pub symbol_spans : ℕ → List Bytes → List SymbolLine → List Span
symbol_spans p variables [] = []
symbol_spans p variables (l ∷ ls) =
    record { start = p + (length sym_word + 1); size = length l.name } ∷ symbol_spans (p + length (sym_line variables l)) variables ls

-- the declaring places of all names: variables from 0, then symbols
abbrev pub spans : Declarations → List Span
spans d =
    variable_spans (length vars_word + 1) d.variables ++ symbol_spans (length (vars_line d.variables)) d.variables d.symbols
