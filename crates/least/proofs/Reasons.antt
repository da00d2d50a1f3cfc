-- The other half of Judged: no number from 2 to 6 without a reason. Where `read` hands back n at q, one of document 01's sentences gives n there, each
-- in its own words with limits, words and signs written out; so a fault more in `Fault`, and in the reader, is refused.
use mathlib.Core.Path.{◌≡◌, refl}
use mathlib.Core.Bool.{true, false}
use mathlib.Core.List.{[], ◌∷◌, ◌++◌}
use mathlib.Core.Logic.{◌⊎◌, inl, inr}
use Prim.Native.Nat.{ℕ, ◌+◌, ◌≤◌, ◌<◌}
use lib.ListN.{length}
use Rattle.form.specs.Text.{Bytes, is_bytes, ascii, decimal, is_lower}
use Rattle.form.specs.Scan.{at, spaces_end}
use Rattle.book.specs.Answers.{number_of, place_of}
use Rattle.book.specs.Books.{reading}
use Rattle.fault.specs.Places.{On, Ends, spot_at, Word, word_at, NoMatch, Header, PatternLine, TokenAt, before, name_at, token_at}
use Rattle.fault.specs.Places.{occurrences, signs, Pattern, Begins}
use Rattle.fault.specs.Fault.{is_name_form, VariableNamed, SymbolNamed, WordFault, TokenFault, Fault, word, token}
use Rattle.fault.specs.Fault.{not_vars, not_sym, seventeenth, no_name, long_name, already, no_kind, no_argument, no_number, long_argument}
use Rattle.fault.specs.Fault.{undeclared_argument, symbol_argument, fifth_variable, fifth_argument}
use Rattle.fault.specs.Fault.{space_first, space_twice, space_last, missing_word, missing_sym, missing_space, missing_token, missing_lf, after}
use Rattle.fault.specs.Fault.{long_token, thirty_second, seventeenth_open, undeclared_name, variable_name, misplaced}
use Rattle.fault.proofs.Ranks.{listed_range}
use Rattle.least.proofs.Sites.{Clean}
use Rattle.least.proofs.Refused.{refused}

module _ (s : Bytes) (q : ℕ) where
  -- word number i of line k begins at q, on the lines before the pattern's; a token begins at q, in the pattern of line k, whose `match` stands at p
  abbrev pub AtWord : (ℕ → ℕ → Type 0) → Type 0
  AtWord P = (k : ℕ) × (i : ℕ) × Word s k i q × Header s k × P k i

  abbrev pub AtToken : (ℕ → ℕ → Type 0) → Type 0
  AtToken P = (k : ℕ) × (p : ℕ) × PatternLine s k p × (at s (p + 5) ≡ 32) × TokenAt s k p q × P k p

  -- the words that declare, and those that are arguments
  abbrev pub Declaring : ℕ → ℕ → Type 0
  Declaring k i = ((k ≡ 0) × (1 ≤ i) × (i ≤ 4)) ⊎ ((1 ≤ k) × (i ≡ 1))

  abbrev pub Arguing : ℕ → ℕ → Type 0
  Arguing k i = (1 ≤ k) × (3 ≤ i) × (i ≤ 6)

  -- 2: no `vars`, no `sym`; no name; no KIND; no argument; no number behind `=`
  abbrev pub WordTwo : ℕ → ℕ → Type 0
  WordTwo k i =
      ((k ≡ 0) × (i ≡ 0) × (word_at s q ≡ ascii "vars" → ⊥)) ⊎ (((1 ≤ k) × (i ≡ 0) × (word_at s q ≡ ascii "sym" → ⊥))
      ⊎ ((Declaring k i × (is_name_form (word_at s q) ≡ false)) ⊎ (((1 ≤ k) × (i ≡ 2) × ((n : ℕ) → 1 ≤ n → n ≤ 255 → word_at s q ≡ decimal n → ⊥))
      ⊎ ((Arguing k i × (word_at s q ≡ ascii "_" → ⊥) × ((v : Bytes) → word_at s q ≡ 61 ∷ v → ⊥) × (is_name_form (word_at s q) ≡ false))
      ⊎ (Arguing k i × ((v : Bytes) × (word_at s q ≡ 61 ∷ v) × ((n : ℕ) → n ≤ 4294967295 → v ≡ decimal n → ⊥)))))))

  -- 2: a space too many; a word that is missing; `match` before any `sym`, or no space behind it; no LF; something behind the last line
  abbrev pub Two : Type 0
  Two =
      AtWord WordTwo
      ⊎ (((k : ℕ) × On s k q × NoMatch s k × (at s q ≡ 32) × ((spot_at s q).words ≡ 0))
      ⊎ (((k : ℕ) × (p : ℕ) × On s k p × Header s k × (at s p ≡ 32) × (at s (p + 1) ≡ 32) × (q ≡ p + 1))
      ⊎ (((k : ℕ) × On s k q × Header s k × (at s q ≡ 32) × Ends s (spaces_end s q))
      ⊎ (((k : ℕ) × On s k q × Header s k × Ends s q × (((k ≡ 0) × ((spot_at s q).words < 1)) ⊎ ((1 ≤ k) × ((spot_at s q).words < 3))))
      ⊎ ((Word s 1 0 q × (word_at s q ≡ ascii "match"))
      ⊎ (((k : ℕ) × (p : ℕ) × PatternLine s k p × (at s (p + 5) ≡ 32 → ⊥) × (q ≡ p + 5))
      ⊎ (((k : ℕ) × On s k q × NoMatch s k × (q ≡ length s))
      ⊎ ((k : ℕ) × (p : ℕ) × (e : ℕ) × PatternLine s k p × On s k e × (at s e ≡ 10) × (e + 1 < length s) × (q ≡ e + 1)))))))))

  -- 3: a seventeenth `sym`; a name over 12 bytes; a fifth variable, a fifth argument; a thirty-second occurrence; a seventeenth open parenthesis
  abbrev pub WordThree : ℕ → ℕ → Type 0
  WordThree k i =
      ((k ≡ 17) × (i ≡ 0) × (word_at s q ≡ ascii "sym"))
      ⊎ (((Declaring k i ⊎ Arguing k i) × (is_name_form (word_at s q) ≡ true) × (12 < length (word_at s q)))
      ⊎ (((k ≡ 0) × (i ≡ 5)) ⊎ ((1 ≤ k) × (i ≡ 7))))

  abbrev pub TokenThree : ℕ → ℕ → Type 0
  TokenThree k p =
      ((is_lower (at s q) ≡ true) × ((12 < length (name_at s q)) ⊎ (31 ≤ occurrences (before s p q))))
      ⊎ ((at s q ≡ 40) × (16 + signs 41 (before s p q) ≤ signs 40 (before s p q)))

  -- 4: a name that a word before it declares
  abbrev pub WordFour : ℕ → ℕ → Type 0
  WordFour k i = Declaring k i × ((j : ℕ) × (h : ℕ) × (p : ℕ) × Word s j h p × Declaring j h × (p < q) × (word_at s p ≡ word_at s q))

  -- 5: an argument that is no variable's name; a name in the pattern that is no symbol's
  abbrev pub WordFive : ℕ → ℕ → Type 0
  WordFive k i = Arguing k i × (is_name_form (word_at s q) ≡ true) × (VariableNamed s (word_at s q) → ⊥)

  abbrev pub TokenFive : ℕ → ℕ → Type 0
  TokenFive k p = (is_lower (at s q) ≡ true) × (SymbolNamed s k (name_at s q) → ⊥)

  -- 6: a token that cannot stand; a token that is missing
  abbrev pub TokenSix : ℕ → ℕ → Type 0
  TokenSix k p = Begins (before s p q) × (Begins (before s p q ++ (token_at s q ∷ [])) → ⊥)

  abbrev pub NoToken : Type 0
  NoToken =
      (k : ℕ) × (p : ℕ) × PatternLine s k p × (at s (p + 5) ≡ 32) × On s k q × Ends s q × Begins (before s p q) × (Pattern (before s p q) → ⊥)

  abbrev pub Reason : ℕ → Type 0
  Reason n =
      ((n ≡ 2) × Two) ⊎ (((n ≡ 3) × (AtWord WordThree ⊎ AtToken TokenThree)) ⊎ (((n ≡ 4) × AtWord WordFour)
      ⊎ (((n ≡ 5) × (AtWord WordFive ⊎ AtToken TokenFive)) ⊎ ((n ≡ 6) × (AtToken TokenSix ⊎ NoToken)))))

  two : Two → Reason 2
  two x = inl (refl, x)

  three : AtWord WordThree ⊎ AtToken TokenThree → Reason 3
  three x = inr (inl (refl, x))

  four : AtWord WordFour → Reason 4
  four x = inr (inr (inl (refl, x)))

  five : AtWord WordFive ⊎ AtToken TokenFive → Reason 5
  five x = inr (inr (inr (inl (refl, x))))

  six : AtToken TokenSix ⊎ NoToken → Reason 6
  six x = inr (inr (inr (inr (refl, x))))

  word_reason : {k i n : ℕ} → Word s k i q → Header s k → WordFault s k i q n → Reason n
  word_reason {k} {i} w h (not_vars a b c) = two (inl (k, i, w, h, inl (a, b, c)))
  word_reason {k} {i} w h (not_sym a b c) = two (inl (k, i, w, h, inr (inl (a, b, c))))
  word_reason {k} {i} w h (seventeenth a b c) = three (inl (k, i, w, h, inl (a, b, c)))
  word_reason {k} {i} w h (no_name a b) = two (inl (k, i, w, h, inr (inr (inl (a, b)))))
  word_reason {k} {i} w h (long_name a b c) = three (inl (k, i, w, h, inr (inl (inl a, b, c))))
  word_reason {k} {i} w g (already {j} {h} {q = p} a b c d e) = four (k, i, w, g, (a, (j, h, p, b, c, d, e)))
  word_reason {k} {i} w h (no_kind a b c) = two (inl (k, i, w, h, inr (inr (inr (inl (a, b, c))))))
  word_reason {k} {i} w h (no_argument a b c d) = two (inl (k, i, w, h, inr (inr (inr (inr (inl (a, b, c, d)))))))
  word_reason {k} {i} w h (no_number {w = v} a b c) = two (inl (k, i, w, h, inr (inr (inr (inr (inr (a, (v, b, c))))))))
  word_reason {k} {i} w h (long_argument a b c) = three (inl (k, i, w, h, inr (inl (inr a, b, c))))
  word_reason {k} {i} w h (undeclared_argument a b c d) = five (inl (k, i, w, h, (a, b, c)))
  word_reason {k} {i} w h (symbol_argument a b c d) = five (inl (k, i, w, h, (a, b, c)))
  word_reason {k} {i} w h (fifth_variable a b) = three (inl (k, i, w, h, inr (inr (inl (a, b)))))
  word_reason {k} {i} w h (fifth_argument a b) = three (inl (k, i, w, h, inr (inr (inr (a, b)))))

  token_reason : {k p n : ℕ} → PatternLine s k p → at s (p + 5) ≡ 32 → TokenAt s k p q → TokenFault s k p q n → Reason n
  token_reason {k} {p} l g t (long_token a b) = three (inr (k, p, l, g, t, inl (a, inl b)))
  token_reason {k} {p} l g t (thirty_second a b) = three (inr (k, p, l, g, t, inl (a, inr b)))
  token_reason {k} {p} l g t (seventeenth_open a b) = three (inr (k, p, l, g, t, inr (a, b)))
  token_reason {k} {p} l g t (undeclared_name a b c) = five (inr (k, p, l, g, t, (a, b)))
  token_reason {k} {p} l g t (variable_name a b c) = five (inr (k, p, l, g, t, (a, b)))
  token_reason {k} {p} l g t (misplaced a b) = six (inl (k, p, l, g, t, (a, b)))

  reason : {n : ℕ} → Fault s q n → Reason n
  reason (space_first {k} a b c d) = two (inr (inl (k, a, b, c, d)))
  reason (space_twice {k} p a b c d e) = two (inr (inr (inl (k, p, a, b, c, d, e))))
  reason (space_last {k} a b c d) = two (inr (inr (inr (inl (k, a, b, c, d)))))
  reason (word w h f) = word_reason w h f
  reason (missing_word {k} a b c d) = two (inr (inr (inr (inr (inl (k, a, b, c, d))))))
  reason (missing_sym a b) = two (inr (inr (inr (inr (inr (inl (a, b)))))))
  reason (missing_space {k} {p} a b c) = two (inr (inr (inr (inr (inr (inr (inl (k, p, a, b, c))))))))
  reason (token l g t f) = token_reason l g t f
  reason (missing_token {k} {p} a b c d e f) = six (inr (k, p, a, b, c, d, e, f))
  reason (missing_lf {k} a b c) = two (inr (inr (inr (inr (inr (inr (inr (inl (k, a, b, c)))))))))
  reason (after {k} {p} e a b c d f) = two (inr (inr (inr (inr (inr (inr (inr (inr (k, p, e, a, b, c, d, f)))))))))

  -- what `read` hands back has its reason
  pub reasons : is_bytes s ≡ true → (n : ℕ) → 2 ≤ n → n ≤ 6 → number_of (reading s).answer ≡ n → place_of (reading s).answer ≡ q → Reason n
  reasons bytes n low high e f = reason (((refused s bytes).fault n q ((listed_range n).1 (low, high))).0 (e, f)).1.fault

-- "no fault stands before p", as Judged has it (`Clean`), in these words: no sentence gives a number to a place before it
pub clean_words : (s : Bytes) (p : ℕ) → ((q n : ℕ) → q < p → Reason s q n → ⊥) → Clean s p
clean_words s p h q n l f = h q n l (reason s q f)
