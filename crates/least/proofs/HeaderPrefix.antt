-- The prefixes of a text that the reader accepts before the pattern, word by word, and where it may stop. They stand between its course
-- (functions with tests) and the faults (a relation): HeaderCourse goes from the one to them, HeaderFacts and HeaderFaults to the other.
use mathlib.Core.Path.{◌≡◌}
use mathlib.Core.Bool.{true}
use mathlib.Core.List.{List, [], ◌∷◌, ◌++◌}
use mathlib.Core.Logic.{◌↔◌, ◌⊎◌}
use Prim.Native.Nat.{ℕ, suc, ◌+◌, ◌-◌, ◌≤◌, ◌<◌}
use lib.ListN.{length}
use Rattle.form.specs.Limits.{variable_limit, symbol_limit, parameter_limit}
use Rattle.form.specs.Text.{Bytes, space, lf, vars_word, sym_word, match_word, Span}
use Rattle.form.specs.Scan.{at, is_word_byte, word_end, spaces_end, kind_of}
use Rattle.form.specs.Lines.{span_of, index_of, declare_fault, argument_fault}
use Rattle.fault.specs.Places.{Ends, word_at, PatternLine}
use Rattle.fault.specs.Fault.{VariableNamed, SymbolNamed}
use Rattle.least.proofs.Sites.{Clean}

-- one space at p, and behind it a word
abbrev pub Gap : Bytes → ℕ → Type 0
Gap s p = (at s p ≡ space) × (p + 1 < length s) × (is_word_byte (at s (p + 1)) ≡ true)

-- `HeaderPrefix s p k i vs ss`: i words of line k are read, the last of them ends at p; vs and ss are the places of the variables' and the
-- symbols' names so far
pub data HeaderPrefix (s : Bytes) : (p k i : ℕ) (vs ss : List Span) → Type 0 where
  opened : word_at s 0 ≡ vars_word → HeaderPrefix s (word_end s 0) 0 1 [] []
  variable : (p i : ℕ) (vs : List Span) → HeaderPrefix s p 0 i vs [] → 1 ≤ i → i ≤ variable_limit → Gap s p → declare_fault s vs (p + 1) (word_end s (p + 1)) ≡ 0
      → HeaderPrefix s (word_end s (p + 1)) 0 (suc i) (vs ++ (span_of (p + 1) (word_end s (p + 1)) ∷ [])) []
  line : (p k i : ℕ) (vs ss : List Span) → HeaderPrefix s p k i vs ss → k ≤ symbol_limit - 1 → (1 ≤ k → 3 ≤ i) → at s p ≡ lf → word_at s (p + 1) ≡ sym_word
      → HeaderPrefix s (word_end s (p + 1)) (suc k) 1 vs ss
  named : (p k : ℕ) (vs ss : List Span) → HeaderPrefix s p k 1 vs ss → 1 ≤ k → Gap s p → declare_fault s (vs ++ ss) (p + 1) (word_end s (p + 1)) ≡ 0
      → HeaderPrefix s (word_end s (p + 1)) k 2 vs (ss ++ (span_of (p + 1) (word_end s (p + 1)) ∷ []))
  kinded : (p k : ℕ) (vs ss : List Span) → HeaderPrefix s p k 2 vs ss → 1 ≤ k → Gap s p → (kind_of s (p + 1) (word_end s (p + 1)) ≡ 0 → ⊥)
      → HeaderPrefix s (word_end s (p + 1)) k 3 vs ss
  argued : (p k i : ℕ) (vs ss : List Span) → HeaderPrefix s p k i vs ss → 1 ≤ k → 3 ≤ i → i ≤ 2 + parameter_limit → Gap s p
      → argument_fault s vs (p + 1) (word_end s (p + 1)) ≡ 0 → HeaderPrefix s (word_end s (p + 1)) k (suc i) vs ss

-- where the course stops with the fault n, at q
pub data HeaderStop (s : Bytes) (q : ℕ) : ℕ → Type 0 where
  no_vars : (word_at s 0 ≡ vars_word → ⊥) → q ≡ 0 → HeaderStop s q 2
  no_lf : (k i : ℕ) (vs ss : List Span) → HeaderPrefix s q k i vs ss → q ≡ length s → HeaderStop s q 2
  last_space : (k i : ℕ) (vs ss : List Span) → HeaderPrefix s q k i vs ss → at s q ≡ space → Ends s (spaces_end s q) → HeaderStop s q 2
  two_spaces : (p k i : ℕ) (vs ss : List Span) → HeaderPrefix s p k i vs ss → at s p ≡ space → at s (p + 1) ≡ space → (Ends s (spaces_end s p) → ⊥)
      → q ≡ p + 1 → HeaderStop s q 2
  bad_variable : (p i n : ℕ) (vs : List Span) → HeaderPrefix s p 0 i vs [] → 1 ≤ i → i ≤ variable_limit → Gap s p
      → declare_fault s vs (p + 1) (word_end s (p + 1)) ≡ n
      → (n ≡ 0 → ⊥) → q ≡ p + 1 → HeaderStop s q n
  fifth_variable : (p : ℕ) (vs ss : List Span) → HeaderPrefix s p 0 (variable_limit + 1) vs ss → Gap s p → q ≡ p + 1 → HeaderStop s q 3
  few_words : (k i : ℕ) (vs ss : List Span) → HeaderPrefix s q k i vs ss → 1 ≤ k → i ≤ 2 → at s q ≡ lf → HeaderStop s q 2
  bad_name : (p k n : ℕ) (vs ss : List Span) → HeaderPrefix s p k 1 vs ss → 1 ≤ k → Gap s p → declare_fault s (vs ++ ss) (p + 1) (word_end s (p + 1)) ≡ n
      → (n ≡ 0 → ⊥) → q ≡ p + 1 → HeaderStop s q n
  bad_kind : (p k : ℕ) (vs ss : List Span) → HeaderPrefix s p k 2 vs ss → 1 ≤ k → Gap s p → kind_of s (p + 1) (word_end s (p + 1)) ≡ 0
      → q ≡ p + 1 → HeaderStop s q 2
  bad_argument : (p k i n : ℕ) (vs ss : List Span) → HeaderPrefix s p k i vs ss → 1 ≤ k → 3 ≤ i → i ≤ 2 + parameter_limit → Gap s p
      → argument_fault s vs (p + 1) (word_end s (p + 1)) ≡ n → (n ≡ 0 → ⊥) → q ≡ p + 1 → HeaderStop s q n
  fifth_argument : (p k : ℕ) (vs ss : List Span) → HeaderPrefix s p k (3 + parameter_limit) vs ss → 1 ≤ k → Gap s p → q ≡ p + 1 → HeaderStop s q 3
  bad_line : (p k i : ℕ) (vs ss : List Span) → HeaderPrefix s p k i vs ss → k ≤ symbol_limit → (1 ≤ k → 3 ≤ i) → at s p ≡ lf → (word_at s (p + 1) ≡ sym_word → ⊥)
      → (word_at s (p + 1) ≡ match_word → k ≡ 0) → q ≡ p + 1 → HeaderStop s q 2
  seventeenth : (p i : ℕ) (vs ss : List Span) → HeaderPrefix s p symbol_limit i vs ss → 3 ≤ i → at s p ≡ lf → word_at s (p + 1) ≡ sym_word → q ≡ p + 1
      → HeaderStop s q 3

-- the course has read up to the word `match`, which ends at e
pub record Matched (s : Bytes) (e : ℕ) (vs ss : List Span) : Type 0 where
  pub p : ℕ
  pub k : ℕ
  pub i : ℕ
  pub prefix : HeaderPrefix s p k i vs ss
  pub lines : (1 ≤ k) × (k ≤ symbol_limit)
  pub words : 3 ≤ i
  pub ended : at s p ≡ lf
  pub match : word_at s (p + 1) ≡ match_word
  pub end : e ≡ word_end s (p + 1)

-- what is known at the word `match`, which ends at e: its line, no fault before its end, and which names are symbols' and variables'
pub record Ready (s : Bytes) (symbols : List Span) (e : ℕ) : Type 0 where
  pub k : ℕ
  pub p : ℕ
  pub line : PatternLine s k p
  pub end : e ≡ p + length match_word
  pub clean : Clean s e
  pub later : (k ≡ 1) → ⊥
  pub known : (w : Bytes) → (index_of s symbols w < length symbols) ↔ SymbolNamed s k w
  pub variable : (w : Bytes) → VariableNamed s w ⊎ (VariableNamed s w → ⊥)
