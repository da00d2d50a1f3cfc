-- The least fault at a word of the lines before the pattern, at a token of the pattern and at its LF, where no fault stands before it: nothing else
-- that may be wrong there has a number that comes before. For HeaderFaults and PatternFaults (where the course stops) and Judged (sentence by sentence).
use mathlib.Core.Path.{◌≡◌, refl, sym, ap, ◌∙◌}
use mathlib.Core.Bool.{true, false, true≢false}
use mathlib.Core.List.{[], ◌∷◌, ◌++◌}
use mathlib.Core.Logic.{◌⊎◌, inl, inr, ⊎_elim}
use Prim.Native.Nat.{ℕ, suc, ◌+◌, ◌≤◌, ◌<◌}
use native.Mathlib.Omega.{arith}
use lib.ListN.{length}
use Rattle.form.specs.Text.{Bytes, space, lf, is_lower, sym_word}
use Rattle.form.specs.Phrase.{opening, closing}
use Rattle.form.specs.Scan.{at}
use Rattle.parsing.proofs.TokenScan.{inside_of}
use Rattle.fault.specs.Places.{On, Word, word_at, Header, PatternLine, TokenAt, before, name_at, token_at, occurrences, signs, Pattern, Begins}
use Rattle.fault.specs.Fault as F
use Rattle.fault.specs.Fault.{is_name_form, Declares, IsArgument, VariableNamed, SymbolNamed, WordFault, TokenFault, fault_rank, Least}
use Rattle.least.proofs.Sites.{Clean, least_of, word_fault}
use Rattle.least.proofs.WordFaults.{IsExcess, first_wrong, name_wrong, argument_wrong, excess_wrong}
use Rattle.least.proofs.PatternSites.{Here, no_space, token, no_token, no_lf, line_fault, token_fault}

-- word number i of line k begins at p, before the pattern's line
module _ (s : Bytes) {k i p : ℕ} (w : Word s k i p) (h : Header s k) (clean : Clean s p) where
  word_least : (n : ℕ) → WordFault s k i p n → ((m : ℕ) → WordFault s k i p m → fault_rank n ≤ fault_rank m) → Least s p n
  word_least n f least =
      least_of s p n clean (F.word w h f) λ m g. least m (word_fault s k p m (ap (λ y. y.line) w.spot) h g i w)

  pub seventeenth_least : k ≡ 17 → i ≡ 0 → word_at s p ≡ sym_word → Least s p 3
  seventeenth_least a z b =
      word_least 3 (F.seventeenth a z b) λ m g. rw (first_wrong z (λ y. absurd (omega arith)) (λ _. b) g).1 (omega arith)

  -- a name that is declared: too long, and declared already
  pub long_name_least : Declares k i → is_name_form (word_at s p) ≡ true → 12 < length (word_at s p) → Least s p 3
  long_name_least d f b =
      word_least 3 (F.long_name d f b) λ m g. ⊎_elim (λ e. rw e.1 (omega arith)) (λ e. rw e.1 (omega arith)) (name_wrong d f g)

  pub already_least : {j l q : ℕ} → Declares k i → is_name_form (word_at s p) ≡ true → length (word_at s p) ≤ 12
      → Word s j l q → Declares j l → q < p → word_at s q ≡ word_at s p → Least s p 4
  already_least d f b u c l x =
      word_least 4 (F.already d u c l x) λ m g. ⊎_elim (λ e. absurd (omega (arith, e.0))) (λ e. rw e.1 (omega arith)) (name_wrong d f g)

  -- an argument: too long, and no variable's name
  pub long_argument_least : IsArgument k i → is_name_form (word_at s p) ≡ true → 12 < length (word_at s p) → Least s p 3
  long_argument_least d f b =
      word_least 3 (F.long_argument d f b)
      λ m g. ⊎_elim (λ e. rw e.1 (omega arith)) (λ e. rw e.1 (omega arith)) (argument_wrong d (inr (inr f)) g).1

  pub undeclared_argument_least : IsArgument k i → is_name_form (word_at s p) ≡ true → length (word_at s p) ≤ 12 → (VariableNamed s (word_at s p) → ⊥)
      → SymbolNamed s (suc k) (word_at s p) ⊎ (SymbolNamed s (suc k) (word_at s p) → ⊥) → Least s p 5
  undeclared_argument_least d f b v y =
      word_least 5 (⊎_elim (F.symbol_argument d f v) (F.undeclared_argument d f v) y)
      λ m g. ⊎_elim (λ e. absurd (omega (arith, e.0))) (λ e. rw e.1 (omega arith)) (argument_wrong d (inr (inr f)) g).1

  -- one word too many
  pub excess_least : IsExcess k i → Least s p 3
  excess_least x =
      word_least 3 (⊎_elim (λ e. F.fifth_variable e.0 e.1) (λ e. F.fifth_argument e.0 e.1) x) λ m g. rw (excess_wrong x g) (omega arith)

-- the first number that a token's fault may have: 3; of a name that keeps the limits 5; of what is no name and no parenthesis too many 6
module _ {s : Bytes} {k p q : ℕ} where
  token_rank : (n : ℕ) → TokenFault s k p q n → fault_rank 3 ≤ fault_rank n
  token_rank n (F.long_token _ _) = omega arith
  token_rank n (F.thirty_second _ _) = omega arith
  token_rank n (F.seventeenth_open _ _) = omega arith
  token_rank n (F.undeclared_name _ _ _) = omega arith
  token_rank n (F.variable_name _ _ _) = omega arith
  token_rank n (F.misplaced _ _) = omega arith

  name_rank : is_lower (at s q) ≡ true → length (name_at s q) ≤ 12 → occurrences (before s p q) < 31
      → (n : ℕ) → TokenFault s k p q n → fault_rank 5 ≤ fault_rank n
  name_rank l a b n (F.long_token _ c) = absurd (omega (arith, c))
  name_rank l a b n (F.thirty_second _ c) = absurd (omega (arith, c))
  name_rank l a b n (F.seventeenth_open c _) = absurd (true≢false (sym l ∙ ap is_lower c))
  name_rank l a b n (F.undeclared_name _ _ _) = omega arith
  name_rank l a b n (F.variable_name _ _ _) = omega arith
  name_rank l a b n (F.misplaced _ _) = omega arith

  sign_rank : is_lower (at s q) ≡ false → (at s q ≡ opening → signs opening (before s p q) < 16 + signs closing (before s p q))
      → (n : ℕ) → TokenFault s k p q n → fault_rank 6 ≤ fault_rank n
  sign_rank l a n (F.long_token c _) = absurd (true≢false (sym c ∙ l))
  sign_rank l a n (F.thirty_second c _) = absurd (true≢false (sym c ∙ l))
  sign_rank l a n (F.seventeenth_open c d) = absurd (omega (arith, a c, d))
  sign_rank l a n (F.undeclared_name c _ _) = absurd (true≢false (sym c ∙ l))
  sign_rank l a n (F.variable_name c _ _) = absurd (true≢false (sym c ∙ l))
  sign_rank l a n (F.misplaced _ _) = omega arith

-- on the pattern's line, behind `match` and a space
module _ (s : Bytes) {k p : ℕ} (pattern_line : PatternLine s k p) (later : k ≡ 1 → ⊥) (gap : at s (p + 5) ≡ space) {q : ℕ} (clean : Clean s q) where
  -- at the LF, where the pattern wants a token more
  pub missing_token_least : p + 6 ≤ q → On s k q → at s q ≡ lf → Begins (before s p q) → (Pattern (before s p q) → ⊥) → Least s q 6
  missing_token_least behind o e b n =
      least_of s q 6 clean (F.missing_token pattern_line gap o (inl e) b n) λ m f. only m (line_fault s k p pattern_line later q m (omega arith) o f)
    where
      only : (m : ℕ) → Here s k p pattern_line q m → fault_rank 6 ≤ fault_rank m
      only m (no_space x y) = absurd (omega arith)
      only m (token t x) = absurd (t.in_line e)
      only m (no_token x y) = omega arith
      only m (no_lf x) = absurd (omega (arith, inside_of s q lf e refl))

  -- where a token begins
  module _ (t : TokenAt s k p q) where
    token_least : (n : ℕ) → TokenFault s k p q n → ((m : ℕ) → TokenFault s k p q m → fault_rank n ≤ fault_rank m) → Least s q n
    token_least n f least =
        least_of s q n clean (F.token pattern_line gap t f)
        λ m g. least m (token_fault s k p pattern_line later q m t.behind t.on t.present t.in_line g).1

    pub long_token_least : is_lower (at s q) ≡ true → 12 < length (name_at s q) → Least s q 3
    long_token_least l a = token_least 3 (F.long_token l a) token_rank

    pub thirty_second_least : is_lower (at s q) ≡ true → 31 ≤ occurrences (before s p q) → Least s q 3
    thirty_second_least l a = token_least 3 (F.thirty_second l a) token_rank

    pub seventeenth_open_least : at s q ≡ opening → 16 + signs closing (before s p q) ≤ signs opening (before s p q) → Least s q 3
    seventeenth_open_least e a = token_least 3 (F.seventeenth_open e a) token_rank

    pub undeclared_name_least : is_lower (at s q) ≡ true → length (name_at s q) ≤ 12 → occurrences (before s p q) < 31
        → (SymbolNamed s k (name_at s q) → ⊥) → VariableNamed s (name_at s q) ⊎ (VariableNamed s (name_at s q) → ⊥) → Least s q 5
    undeclared_name_least l a b c d = token_least 5 (⊎_elim (F.variable_name l c) (F.undeclared_name l c) d) (name_rank l a b)

    pub misplaced_least : is_lower (at s q) ≡ false → (at s q ≡ opening → signs opening (before s p q) < 16 + signs closing (before s p q))
        → Begins (before s p q) → (Begins (before s p q ++ (token_at s q ∷ [])) → ⊥) → Least s q 6
    misplaced_least l a b c = token_least 6 (F.misplaced b c) (sign_rank l a)
