-- `Fault s q n`: the text s has the fault n (one of `fault_numbers`) at place q, by one sentence of document 01 ("The book"; "What a call
-- hands back", Reading) or of document 02 (change 1) for each constructor. `Least`: "the earliest place; at one place the smaller number". "A book is
-- ASCII text" has none of its own: a word or token with a byte from 128 on is one of not_vars, not_sym, no_name, no_kind, no_argument, no_number,
-- misplaced, or stands in excess.
use Rattle.std.specs.Prelude.{◌≡◌, Bool, true, false, cond, ◌&&◌, List, [], ◌∷◌, ◌++◌, ◌⊎◌, ℕ, suc, ◌+◌, ◌≤◌, ◌<◌, eqb, length}
use Rattle.laws.specs.Lists.{all}
use Rattle.pattern.specs.Positions.{occurrence_limit}
use Rattle.form.specs.Limits.{variable_limit, symbol_limit, kind_limit, parameter_limit, number_limit, name_limit, open_limit}
use Rattle.form.specs.Text.{Bytes, space, lf, is_lower, is_name_byte, vars_word, sym_word, match_word, ignored_word, fixed_sign, decimal}
use Rattle.form.specs.Phrase.{opening, closing}
use Rattle.form.specs.Scan.{at, spaces_end}
use Rattle.fault.specs.Places.{On, Ends, spot_at, Word, word_at, NoMatch, Header, PatternLine, TokenAt, before, name_at, token_at}
use Rattle.fault.specs.Places.{occurrences, signs, Pattern, Begins}

-- "A name is a to z, then a to z or 0 to 9", of any length
abbrev pub is_name_form : Bytes → Bool
is_name_form [] = false
is_name_form (b ∷ w) = is_lower b && all is_name_byte w

-- the words that declare: on line 0 those behind `vars` up to the limit, on a later line the one behind `sym`
abbrev pub Declares : (k i : ℕ) → Type 0
Declares k i = ((k ≡ 0) × (1 ≤ i) × (i ≤ variable_limit)) ⊎ ((1 ≤ k) × (i ≡ 1))

-- the words that are arguments: up to the limit behind `sym NAME KIND`
abbrev pub IsArgument : (k i : ℕ) → Type 0
IsArgument k i = (1 ≤ k) × (3 ≤ i) × (i ≤ 2 + parameter_limit)

-- w is the name of a variable; of a symbol that a line before line k declares
abbrev pub VariableNamed : Bytes → Bytes → Type 0
VariableNamed s w = (h : ℕ) × (q : ℕ) × Word s 0 h q × Declares 0 h × (word_at s q ≡ w)

abbrev pub SymbolNamed : Bytes → ℕ → Bytes → Type 0
SymbolNamed s k w = (j : ℕ) × (q : ℕ) × (1 ≤ j) × (j < k) × Word s j 1 q × (word_at s q ≡ w)

-- what may be wrong with word number i of line k, which begins at p: the lines `vars …` and `sym NAME KIND ARGS`
pub data WordFault (s : Bytes) (k i p : ℕ) : ℕ → Type 0 where
  -- "First line: `vars`"
  not_vars : k ≡ 0 → i ≡ 0 → (word_at s p ≡ vars_word → ⊥) → WordFault s k i p 2
  -- "Then 1 to 16 lines `sym NAME KIND ARGS`. … Last line: `match`": any other word (`Header`, in `word` below, excludes `match`)
  not_sym : 1 ≤ k → i ≡ 0 → (word_at s p ≡ sym_word → ⊥) → WordFault s k i p 2
  -- "the first excess word … carries 3 (for a seventeenth `sym`, that word"
  seventeenth : k ≡ symbol_limit + 1 → i ≡ 0 → word_at s p ≡ sym_word → WordFault s k i p 3
  -- "A name is a to z, then a to z or 0 to 9"
  no_name : Declares k i → is_name_form (word_at s p) ≡ false → WordFault s k i p 2
  -- "for a name over 12 bytes, that name"
  long_name : Declares k i → is_name_form (word_at s p) ≡ true → name_limit < length (word_at s p) → WordFault s k i p 3
  -- "name already declared"; "Variables and symbols share one set of names."
  already : {j h q : ℕ} → Declares k i → Word s j h q → Declares j h → q < p → word_at s q ≡ word_at s p → WordFault s k i p 4
  -- "KIND is 1 to 255 without leading zeros"; "A KIND out of range is 2"
  no_kind : 1 ≤ k → i ≡ 2 → ((n : ℕ) → 1 ≤ n → n ≤ kind_limit → word_at s p ≡ decimal n → ⊥) → WordFault s k i p 2
  -- "ARGS are 0 to 4 words, each a declared variable or `_`", or begin with `=` (no_number): no name and none of these; a name over 12 bytes
  no_argument : IsArgument k i → (word_at s p ≡ ignored_word → ⊥) → ((w : Bytes) → word_at s p ≡ fixed_sign ∷ w → ⊥) → is_name_form (word_at s p) ≡ false
      → WordFault s k i p 2
  long_argument : IsArgument k i → is_name_form (word_at s p) ≡ true → name_limit < length (word_at s p) → WordFault s k i p 3
  -- "An argument word may be `=` and a number 0 to 4294967295 without extra leading zeros; anything else after `=` is answer 2."
  no_number : {w : Bytes} → IsArgument k i → word_at s p ≡ fixed_sign ∷ w → ((n : ℕ) → n ≤ number_limit → w ≡ decimal n → ⊥) → WordFault s k i p 2
  -- "name not declared": neither a variable nor, up to this line, a symbol has this name
  undeclared_argument : IsArgument k i → is_name_form (word_at s p) ≡ true → (VariableNamed s (word_at s p) → ⊥) → (SymbolNamed s (suc k) (word_at s p) → ⊥)
      → WordFault s k i p 5
  -- "a symbol's name among ARGS … is 5"
  symbol_argument : IsArgument k i → is_name_form (word_at s p) ≡ true → (VariableNamed s (word_at s p) → ⊥) → SymbolNamed s (suc k) (word_at s p)
      → WordFault s k i p 5
  -- "the first excess word, of any form, carries 3": a fifth variable, a fifth argument
  fifth_variable : k ≡ 0 → i ≡ variable_limit + 1 → WordFault s k i p 3
  fifth_argument : 1 ≤ k → i ≡ 3 + parameter_limit → WordFault s k i p 3

-- what may be wrong with the token that begins at q, in the pattern of line k, whose word `match` stands at p
pub data TokenFault (s : Bytes) (k p q : ℕ) : ℕ → Type 0 where
  -- "for a name over 12 bytes, that name"
  long_token : is_lower (at s q) ≡ true → name_limit < length (name_at s q) → TokenFault s k p q 3
  -- "At most 31 symbol occurrences": a thirty-second, and any after it
  thirty_second : is_lower (at s q) ≡ true → occurrence_limit ≤ occurrences (before s p q) → TokenFault s k p q 3
  -- "at most 16 parentheses open together": a seventeenth, and any more
  seventeenth_open : at s q ≡ opening → open_limit + signs closing (before s p q) ≤ signs opening (before s p q) → TokenFault s k p q 3
  -- "name not declared": neither a symbol nor a variable has this name
  undeclared_name : is_lower (at s q) ≡ true → (SymbolNamed s k (name_at s q) → ⊥) → (VariableNamed s (name_at s q) → ⊥) → TokenFault s k p q 5
  -- "or a variable's in the pattern, is 5"
  variable_name : is_lower (at s q) ≡ true → (SymbolNamed s k (name_at s q) → ⊥) → VariableNamed s (name_at s q) → TokenFault s k p q 5
  -- "pattern out of form": the tokens before it begin some pattern, and those up to it begin none
  misplaced : Begins (before s p q) → (Begins (before s p q ++ (token_at s q ∷ [])) → ⊥) → TokenFault s k p q 6

-- the least number of words: `vars` alone; `sym NAME KIND`
abbrev pub WordsMissing : (k words : ℕ) → Type 0
WordsMissing k n = ((k ≡ 0) × (n < 1)) ⊎ ((1 ≤ k) × (n < 3))

pub data Fault (s : Bytes) (q : ℕ) : ℕ → Type 0 where
  -- "Words are divided by one space, none at a line's end"; "a space too many is 2 at that space": one before a line's first word, one
  -- behind another, one with no word behind it
  space_first : {k : ℕ} → On s k q → NoMatch s k → at s q ≡ space → (spot_at s q).words ≡ 0 → Fault s q 2
  space_twice : {k : ℕ} (p : ℕ) → On s k p → Header s k → at s p ≡ space → at s (p + 1) ≡ space → q ≡ p + 1 → Fault s q 2
  space_last : {k : ℕ} → On s k q → Header s k → at s q ≡ space → Ends s (spaces_end s q) → Fault s q 2
  -- "A place is the first byte … of the offending word"
  word : {k i n : ℕ} → Word s k i q → Header s k → WordFault s k i q n → Fault s q n
  -- "a missing one is placed at the LF"
  missing_word : {k : ℕ} → On s k q → Header s k → Ends s q → WordsMissing k (spot_at s q).words → Fault s q 2
  -- "Then 1 to 16 lines": `match` stands where the first of them must
  missing_sym : Word s 1 0 q → word_at s q ≡ match_word → Fault s q 2
  -- "Last line: `match`, a space, a pattern": the space is missing
  missing_space : {k p : ℕ} → PatternLine s k p → (at s (p + length match_word) ≡ space → ⊥) → q ≡ p + length match_word → Fault s q 2
  -- "or token"
  token : {k p n : ℕ} → PatternLine s k p → at s (p + length match_word) ≡ space → TokenAt s k p q → TokenFault s k p q n → Fault s q n
  -- "pattern out of form": the pattern wants a token more
  missing_token : {k p : ℕ} → PatternLine s k p → at s (p + length match_word) ≡ space → On s k q → Ends s q → Begins (before s p q)
      → (Pattern (before s p q) → ⊥) → Fault s q 6
  -- "a missing LF at the book's end": the book ends on a line before the pattern's (which is then missing) or on the pattern's
  missing_lf : {k : ℕ} → On s k q → NoMatch s k → q ≡ length s → Fault s q 2
  -- "Nothing follows it."
  after : {k p : ℕ} (e : ℕ) → PatternLine s k p → On s k e → at s e ≡ lf → e + 1 < length s → q ≡ e + 1 → Fault s q 2

-- "at one place the smaller number": the numbers of faults, at one place the first of them first
abbrev pub fault_numbers : List ℕ
fault_numbers = 2 ∷ 3 ∷ 4 ∷ 5 ∷ 6 ∷ []

-- how many numbers of a list stand before the first n: all of them where n is not in it
abbrev pub rank_in : List ℕ → ℕ → ℕ
rank_in [] n = 0
rank_in (m ∷ l) n = let r = suc (rank_in l n) in cond (eqb m n) 0 r

-- how many of the numbers of faults stand before n
abbrev pub fault_rank : ℕ → ℕ
fault_rank n = rank_in fault_numbers n

-- "the earliest place; at one place the smaller number"
pub record Least (s : Bytes) (p n : ℕ) : Type 0 where
  pub fault : Fault s p n
  pub least : (q m : ℕ) → Fault s q m → (p < q) ⊎ ((p ≡ q) × (fault_rank n ≤ fault_rank m))

abbrev pub NoFault : Bytes → Type 0
NoFault s = (p n : ℕ) → Fault s p n → ⊥
