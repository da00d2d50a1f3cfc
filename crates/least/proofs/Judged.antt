-- What a word of the lines before the pattern, and a token of the pattern, is answered, sentence by sentence, where no fault stands before it: for
-- readers of `refused`, which says the same by `Fault`. Limits and words are written out, and each case says what `read` hands back, whatever else
-- the word or token is.
use mathlib.Core.Path.{◌≡◌}
use mathlib.Core.Bool.{true, false}
use mathlib.Core.List.{[], ◌∷◌, ◌++◌}
use mathlib.Core.Logic.{◌⊎◌}
use Prim.Native.Nat.{ℕ, suc, ◌+◌, ◌≤◌, ◌<◌}
use lib.ListN.{length}
use Rattle.form.specs.Text.{Bytes, is_bytes, ascii, decimal, space, is_lower}
use Rattle.form.specs.Scan.{at, spaces_end}
use Rattle.book.specs.Answers.{number_of, place_of}
use Rattle.book.specs.Books.{reading}
use Rattle.fault.specs.Places.{On, Ends, spot_at, Word, word_at, NoMatch, Header, PatternLine, TokenAt, before, name_at, token_at}
use Rattle.fault.specs.Places.{occurrences, signs, Pattern, Begins}
use Rattle.fault.specs.Fault.{is_name_form, IsArgument, VariableNamed, SymbolNamed, WordFault, Fault, Least}
use Rattle.fault.specs.Fault.{not_vars, not_sym, no_name, no_kind, no_argument, no_number, word}
use Rattle.fault.specs.Fault.{space_first, space_twice, space_last, missing_word, missing_sym, missing_space, missing_lf, after}
use Rattle.fault.proofs.Ranks.{fault_listed}
use Rattle.least.proofs.Sites.{Clean, two_least}
use Rattle.least.proofs.LeastFaults.{seventeenth_least, long_name_least, already_least, long_argument_least}
use Rattle.least.proofs.LeastFaults.{undeclared_argument_least, excess_least, missing_token_least, long_token_least}
use Rattle.least.proofs.LeastFaults.{thirty_second_least, seventeenth_open_least, undeclared_name_least, misplaced_least}
use Rattle.least.proofs.Refused.{refused}

-- the least fault is what `read` hands back
answered : (s : Bytes) → is_bytes s ≡ true → length s ≤ 4096 → {p n : ℕ} → Least s p n
    → (number_of (reading s).answer ≡ n) × (place_of (reading s).answer ≡ p)
answered s bytes short {p} {n} l = ((refused s bytes).fault n p (fault_listed l.fault)).1 (short, l)

-- word number i, from 0, of line k, from 0, begins at p, none of these lines is `match …`, and no fault stands before p
module _ (s : Bytes) (bytes : is_bytes s ≡ true) (short : length s ≤ 4096) {k i p : ℕ} (w : Word s k i p) (h : Header s k) (clean : Clean s p) where
  -- what `read` hands back is n at p
  abbrev pub Answers : ℕ → Type 0
  Answers n = (number_of (reading s).answer ≡ n) × (place_of (reading s).answer ≡ p)

  two : WordFault s k i p 2 → Answers 2
  two f = answered s bytes short (two_least s p clean (word w h f))

  -- "First line: `vars`"; "Then 1 to 16 lines `sym NAME KIND ARGS`. … Last line: `match`": any other word; "for a seventeenth `sym`, that word"
  pub first_words : i ≡ 0
      → (k ≡ 0 → (word_at s p ≡ ascii "vars" → ⊥) → Answers 2) × (1 ≤ k → (word_at s p ≡ ascii "sym" → ⊥) → Answers 2)
      × (k ≡ 17 → word_at s p ≡ ascii "sym" → Answers 3)
  first_words z = (
    λ a b. two (not_vars a z b),
    λ a b. two (not_sym a z b),
    λ a b. answered s bytes short (seventeenth_least s w h clean a z b),
  )

  -- "A name is a to z, then a to z or 0 to 9, 1 to 12 bytes": any other word is 2, "for a name over 12 bytes, that name" is 3; "name already declared" is
  -- 4, "Variables and symbols share one set of names."
  pub declaring_words : (d : ((k ≡ 0) × (1 ≤ i) × (i ≤ 4)) ⊎ ((1 ≤ k) × (i ≡ 1)))
      → (is_name_form (word_at s p) ≡ false → Answers 2) × (is_name_form (word_at s p) ≡ true → 12 < length (word_at s p) → Answers 3)
      × (is_name_form (word_at s p) ≡ true → length (word_at s p) ≤ 12
      → (j l q : ℕ) → Word s j l q → ((j ≡ 0) × (1 ≤ l) × (l ≤ 4)) ⊎ ((1 ≤ j) × (l ≡ 1)) → q < p → word_at s q ≡ word_at s p → Answers 4)
  declaring_words d = (
    λ f. two (no_name d f),
    λ f n. answered s bytes short (long_name_least s w h clean d f n),
    λ f n j l q u e b x. answered s bytes short (already_least s w h clean d f n u e b x),
  )

  -- "KIND is 1 to 255 without leading zeros"; "A KIND out of range is 2"
  pub kind_words : 1 ≤ k → i ≡ 2 → ((n : ℕ) → 1 ≤ n → n ≤ 255 → word_at s p ≡ decimal n → ⊥) → Answers 2
  kind_words a z n = two (no_kind a z n)

  -- "ARGS are 0 to 4 words, each a declared variable or `_`", "An argument word may be `=` and a number 0 to 4294967295 without extra leading zeros": no
  -- name, not `_` and without `=` is 2, "anything else after `=`" too; a name over 12 bytes 3, a name that no variable has 5, "a symbol's name among ARGS" too
  pub argument_words : 1 ≤ k → 3 ≤ i → i ≤ 6
      → ((word_at s p ≡ ascii "_" → ⊥) → ((v : Bytes) → word_at s p ≡ 61 ∷ v → ⊥) → is_name_form (word_at s p) ≡ false → Answers 2)
      × ((v : Bytes) → word_at s p ≡ 61 ∷ v → ((n : ℕ) → n ≤ 4294967295 → v ≡ decimal n → ⊥) → Answers 2)
      × (is_name_form (word_at s p) ≡ true → 12 < length (word_at s p) → Answers 3)
      × (is_name_form (word_at s p) ≡ true → length (word_at s p) ≤ 12 → (VariableNamed s (word_at s p) → ⊥)
      → SymbolNamed s (suc k) (word_at s p) ⊎ (SymbolNamed s (suc k) (word_at s p) → ⊥) → Answers 5)
  argument_words a b c =
      let x : IsArgument k i = (a, b, c) in (
        λ u v f. two (no_argument x u v f),
        λ v e n. two (no_number x e n),
        λ f n. answered s bytes short (long_argument_least s w h clean x f n),
        λ f n v y. answered s bytes short (undeclared_argument_least s w h clean x f n v y),
      )

  -- "the first excess word, of any form, carries 3": a fifth variable, a fifth argument, whatever its bytes
  pub excess : ((k ≡ 0) × (i ≡ 5)) ⊎ ((1 ≤ k) × (i ≡ 7)) → Answers 3
  excess x = answered s bytes short (excess_least s w h clean x)

-- a token begins at q on the pattern's line, which is line k with `match` and a space at p, behind a `sym` line, and no fault stands before it
module _ (s : Bytes) (bytes : is_bytes s ≡ true) (short : length s ≤ 4096) {k p q : ℕ} (line : PatternLine s k p) (later : k ≡ 1 → ⊥)
    (gap : at s (p + 5) ≡ space) (t : TokenAt s k p q) (clean : Clean s q) where
  abbrev pub TokenAnswers : ℕ → Type 0
  TokenAnswers n = (number_of (reading s).answer ≡ n) × (place_of (reading s).answer ≡ q)

  -- "for a name over 12 bytes, that name"; "At most 31 symbol occurrences"; "name not declared", "a variable's in the pattern, is 5"
  pub name_tokens : is_lower (at s q) ≡ true
      → (12 < length (name_at s q) → TokenAnswers 3) × (31 ≤ occurrences (before s p q) → TokenAnswers 3)
      × (length (name_at s q) ≤ 12 → occurrences (before s p q) < 31 → (SymbolNamed s k (name_at s q) → ⊥)
      → VariableNamed s (name_at s q) ⊎ (VariableNamed s (name_at s q) → ⊥) → TokenAnswers 5)
  name_tokens l = (
    λ a. answered s bytes short (long_token_least s line later gap clean t l a),
    λ a. answered s bytes short (thirty_second_least s line later gap clean t l a),
    λ a b c d. answered s bytes short (undeclared_name_least s line later gap clean t l a b c d),
  )

  -- "at most 16 parentheses open together"
  pub open_tokens : at s q ≡ 40 → 16 + signs 41 (before s p q) ≤ signs 40 (before s p q) → TokenAnswers 3
  open_tokens e a = answered s bytes short (seventeenth_open_least s line later gap clean t e a)

  -- "pattern out of form": the first token that no pattern has there
  pub other_tokens : is_lower (at s q) ≡ false → (at s q ≡ 40 → signs 40 (before s p q) < 16 + signs 41 (before s p q))
      → Begins (before s p q) → (Begins (before s p q ++ (token_at s q ∷ [])) → ⊥) → TokenAnswers 6
  other_tokens l a b c = answered s bytes short (misplaced_least s line later gap clean t l a b c)

-- places of spaces and of what is missing, where no fault stands before them
module _ (s : Bytes) (bytes : is_bytes s ≡ true) (short : length s ≤ 4096) {q : ℕ} (clean : Clean s q) where
  abbrev pub PlaceAnswers : ℕ → Type 0
  PlaceAnswers n = (number_of (reading s).answer ≡ n) × (place_of (reading s).answer ≡ q)

  at_two : Fault s q 2 → PlaceAnswers 2
  at_two f = answered s bytes short (two_least s q clean f)

  -- "a space too many is 2 at that space": before a line's first word, behind another space, with no word behind it
  pub spaces : {k : ℕ}
      → (On s k q → NoMatch s k → at s q ≡ 32 → (spot_at s q).words ≡ 0 → PlaceAnswers 2)
      × ((p : ℕ) → On s k p → Header s k → at s p ≡ 32 → at s (p + 1) ≡ 32 → q ≡ p + 1 → PlaceAnswers 2)
      × (On s k q → Header s k → at s q ≡ 32 → Ends s (spaces_end s q) → PlaceAnswers 2)
  spaces = (λ o m e w. at_two (space_first o m e w), λ p o h a b e. at_two (space_twice p o h a b e), λ o h a b. at_two (space_last o h a b))

  -- "a missing one is placed at the LF, a missing LF at the book's end": `vars`, or NAME or KIND, before the line's end; the book's end on a line before the
  -- pattern's or on it
  pub missing : {k : ℕ} → On s k q
      → (Header s k → Ends s q → ((k ≡ 0) × ((spot_at s q).words < 1)) ⊎ ((1 ≤ k) × ((spot_at s q).words < 3)) → PlaceAnswers 2)
      × (NoMatch s k → q ≡ length s → PlaceAnswers 2)
  missing o = (λ h e m. at_two (missing_word o h e m), λ m e. at_two (missing_lf o m e))

  -- "Then 1 to 16 lines": `match` where the first must stand; "`match`, a space, a pattern": the space is missing; "Nothing follows it."
  pub around_match :
      (Word s 1 0 q → word_at s q ≡ ascii "match" → PlaceAnswers 2)
      × ((k p : ℕ) → PatternLine s k p → (at s (p + 5) ≡ 32 → ⊥) → q ≡ p + 5 → PlaceAnswers 2)
      × ((k p e : ℕ) → PatternLine s k p → On s k e → at s e ≡ 10 → e + 1 < length s → q ≡ e + 1 → PlaceAnswers 2)
  around_match = (
    λ w e. at_two (missing_sym w e),
    λ k p l g e. at_two (missing_space l g e),
    λ k p e l o b i x. at_two (after e l o b i x),
  )

  -- "pattern out of form", where the pattern wants a token more: "a missing one is placed at the LF"
  pub missing_token_law : {k p : ℕ} (l : PatternLine s k p) → (k ≡ 1 → ⊥) → at s (p + 5) ≡ 32 → p + 6 ≤ q → On s k q → at s q ≡ 10 → q < length s
      → Begins (before s p q) → (Pattern (before s p q) → ⊥) → PlaceAnswers 6
  missing_token_law l later g behind o e i b n = answered s bytes short (missing_token_least s l later g clean behind o e b n)
