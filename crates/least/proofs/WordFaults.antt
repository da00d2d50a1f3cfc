-- What may be wrong with a word, by what the word is for: the first of a line, a name that is declared, a kind, an argument, one too many.
-- For HeaderFacts (nothing is wrong with a word that the course passes) and LeastFaults (which number comes first).
use mathlib.Core.Path.{◌≡◌, refl, sym, ap, ◌∙◌}
use mathlib.Core.Bool.{true, false≢true}
use mathlib.Core.List.{◌∷◌}
use mathlib.Core.Logic.{◌⊎◌, inl, inr}
use Prim.Native.Nat.{ℕ, ◌≤◌, ◌<◌}
use native.Mathlib.Omega.{arith}
use lib.ListN.{length, get_or, drop}
use Rattle.form.specs.Text.{Bytes, vars_word, sym_word, ignored_word, fixed_sign, decimal}
use Rattle.fault.specs.Places.{Word, word_at}
use Rattle.fault.specs.Fault.{WordFault, is_name_form, Declares, IsArgument}

-- a word w that stands before p, as one of the words D
pub record Stood (s : Bytes) (D : ℕ → ℕ → Type 0) (p : ℕ) (w : Bytes) : Type 0 where
  pub line : ℕ
  pub number : ℕ
  pub place : ℕ
  pub word : Word s line number place
  pub is : D line number
  pub before : place < p
  pub same : word_at s place ≡ w

-- the same word for another reason, or before another place
pub stands_as : {s : Bytes} {D E : ℕ → ℕ → Type 0} {p r : ℕ} {w : Bytes} (x : Stood s D p w) → E x.line x.number → x.place < r
    → Stood s E r w
stands_as x e b = record { line = x.line; number = x.number; place = x.place; word = x.word; is = e; before = b; same = x.same }

-- no variable has the name w
abbrev pub NoVariable : Bytes → Bytes → Type 0
NoVariable s w = (h q : ℕ) → Word s 0 h q → Declares 0 h → word_at s q ≡ w → ⊥

declares_numbers : {k i : ℕ} → Declares k i → (1 ≤ i) × (i ≤ 4) × (1 ≤ k → i ≡ 1)
declares_numbers (inl a) = (a.1, a.2, λ h. absurd (omega arith))
declares_numbers (inr a) = (omega arith, omega arith, λ h. a.1)

-- one word too many: a fifth variable or argument
abbrev pub IsExcess : (k i : ℕ) → Type 0
IsExcess k i = ((k ≡ 0) × (i ≡ 5)) ⊎ ((1 ≤ k) × (i ≡ 7))

excess_numbers : {k i : ℕ} → IsExcess k i → (5 ≤ i) × (1 ≤ k → i ≡ 7)
excess_numbers (inl a) = (omega arith, λ h. absurd (omega arith))
excess_numbers (inr a) = (omega arith, λ h. a.1)

-- a word that may be an argument: `_`, `=` and a number, a name
abbrev Arguable : Bytes → Type 0
Arguable w = (w ≡ ignored_word) ⊎ (((n : ℕ) × (n ≤ 4294967295) × (w ≡ fixed_sign ∷ decimal n)) ⊎ (is_name_form w ≡ true))

module _ {s : Bytes} {k i p : ℕ} where
  pub first_wrong : {n : ℕ} → i ≡ 0 → (k ≡ 0 → word_at s p ≡ vars_word) → (1 ≤ k → word_at s p ≡ sym_word) → WordFault s k i p n
      → (k ≡ 17) × (n ≡ 3)
  first_wrong z v y (WordFault.not_vars a b c) = absurd (c (v a))
  first_wrong z v y (WordFault.not_sym a b c) = absurd (c (y a))
  first_wrong z v y (WordFault.seventeenth a b c) = (a, refl)
  first_wrong z v y (WordFault.no_name d a) = absurd (omega (arith, declares_numbers d))
  first_wrong z v y (WordFault.long_name d a b) = absurd (omega (arith, declares_numbers d))
  first_wrong z v y (WordFault.already d a b c e) = absurd (omega (arith, declares_numbers d))
  first_wrong z v y (WordFault.no_kind a b c) = absurd (omega arith)
  first_wrong z v y (WordFault.no_argument a b c g) = absurd (omega arith)
  first_wrong z v y (WordFault.no_number a b c) = absurd (omega arith)
  first_wrong z v y (WordFault.long_argument a b c) = absurd (omega arith)
  first_wrong z v y (WordFault.undeclared_argument a b c g) = absurd (omega arith)
  first_wrong z v y (WordFault.symbol_argument a b c g) = absurd (omega arith)
  first_wrong z v y (WordFault.fifth_variable a b) = absurd (omega arith)
  first_wrong z v y (WordFault.fifth_argument a b) = absurd (omega arith)

  pub name_wrong : {n : ℕ} → Declares k i → is_name_form (word_at s p) ≡ true → WordFault s k i p n
      → ((12 < length (word_at s p)) × (n ≡ 3)) ⊎ (Stood s Declares p (word_at s p) × (n ≡ 4))
  name_wrong d f (WordFault.not_vars a b c) = absurd (omega (arith, declares_numbers d))
  name_wrong d f (WordFault.not_sym a b c) = absurd (omega (arith, declares_numbers d))
  name_wrong d f (WordFault.seventeenth a b c) = absurd (omega (arith, declares_numbers d))
  name_wrong d f (WordFault.no_name _ a) = absurd (false≢true (sym a ∙ f))
  name_wrong d f (WordFault.long_name _ a b) = inl (b, refl)
  name_wrong d f (WordFault.already {j} {h} {q} _ a b c e) =
      inr (record { line = j; number = h; place = q; word = a; is = b; before = c; same = e }, refl)
  name_wrong d f (WordFault.no_kind a b c) = absurd (omega (arith, (declares_numbers d).2 a))
  name_wrong d f (WordFault.no_argument a b c g) = absurd (omega (arith, (declares_numbers d).2 a.0))
  name_wrong d f (WordFault.no_number a b c) = absurd (omega (arith, (declares_numbers d).2 a.0))
  name_wrong d f (WordFault.long_argument a b c) = absurd (omega (arith, (declares_numbers d).2 a.0))
  name_wrong d f (WordFault.undeclared_argument a b c g) = absurd (omega (arith, (declares_numbers d).2 a.0))
  name_wrong d f (WordFault.symbol_argument a b c g) = absurd (omega (arith, (declares_numbers d).2 a.0))
  name_wrong d f (WordFault.fifth_variable a b) = absurd (omega (arith, declares_numbers d))
  name_wrong d f (WordFault.fifth_argument a b) = absurd (omega (arith, declares_numbers d))

  pub kind_wrong : {n : ℕ} → 1 ≤ k → i ≡ 2 → (m : ℕ) → 1 ≤ m → m ≤ 255 → word_at s p ≡ decimal m → WordFault s k i p n → ⊥
  kind_wrong h z m l r e (WordFault.not_vars a b c) = omega arith
  kind_wrong h z m l r e (WordFault.not_sym a b c) = omega arith
  kind_wrong h z m l r e (WordFault.seventeenth a b c) = omega arith
  kind_wrong h z m l r e (WordFault.no_name d a) = omega (arith, (declares_numbers d).2 h)
  kind_wrong h z m l r e (WordFault.long_name d a b) = omega (arith, (declares_numbers d).2 h)
  kind_wrong h z m l r e (WordFault.already d a b c f) = omega (arith, (declares_numbers d).2 h)
  kind_wrong h z m l r e (WordFault.no_kind a b c) = c m l r e
  kind_wrong h z m l r e (WordFault.no_argument a b c g) = omega arith
  kind_wrong h z m l r e (WordFault.no_number a b c) = omega arith
  kind_wrong h z m l r e (WordFault.long_argument a b c) = omega arith
  kind_wrong h z m l r e (WordFault.undeclared_argument a b c g) = omega arith
  kind_wrong h z m l r e (WordFault.symbol_argument a b c g) = omega arith
  kind_wrong h z m l r e (WordFault.fifth_variable a b) = omega arith
  kind_wrong h z m l r e (WordFault.fifth_argument a b) = omega arith

  pub argument_wrong : {n : ℕ} → IsArgument k i → Arguable (word_at s p) → WordFault s k i p n
      → (is_name_form (word_at s p) ≡ true) × (((12 < length (word_at s p)) × (n ≡ 3)) ⊎ (NoVariable s (word_at s p) × (n ≡ 5)))
  argument_wrong x f (WordFault.not_vars a b c) = absurd (omega arith)
  argument_wrong x f (WordFault.not_sym a b c) = absurd (omega arith)
  argument_wrong x f (WordFault.seventeenth a b c) = absurd (omega arith)
  argument_wrong x f (WordFault.no_name d a) = absurd (omega (arith, (declares_numbers d).2 x.0))
  argument_wrong x f (WordFault.long_name d a b) = absurd (omega (arith, (declares_numbers d).2 x.0))
  argument_wrong x f (WordFault.already d a b c e) = absurd (omega (arith, (declares_numbers d).2 x.0))
  argument_wrong x f (WordFault.no_kind a b c) = absurd (omega arith)
  argument_wrong x (inl f) (WordFault.no_argument a b c g) = absurd (b f)
  argument_wrong x (inr (inl (n, l, f))) (WordFault.no_argument a b c g) = absurd (c (decimal n) f)
  argument_wrong x (inr (inr f)) (WordFault.no_argument a b c g) = absurd (false≢true (sym g ∙ f))
  argument_wrong x (inl f) (WordFault.no_number a b c) = absurd (omega (arith, ap (λ w. get_or w 0 0) (sym b ∙ f)))
  argument_wrong x (inr (inl (n, l, f))) (WordFault.no_number a b c) = absurd (c n l (ap (drop 1) (sym b ∙ f)))
  argument_wrong x (inr (inr f)) (WordFault.no_number a b c) = absurd (false≢true (sym (ap is_name_form b) ∙ f))
  argument_wrong x f (WordFault.long_argument a b c) = (b, inl (c, refl))
  argument_wrong x f (WordFault.undeclared_argument a b c g) = (b, inr (λ h q u d e. c (h, q, u, d, e), refl))
  argument_wrong x f (WordFault.symbol_argument a b c g) = (b, inr (λ h q u d e. c (h, q, u, d, e), refl))
  argument_wrong x f (WordFault.fifth_variable a b) = absurd (omega arith)
  argument_wrong x f (WordFault.fifth_argument a b) = absurd (omega arith)

  pub excess_wrong : {n : ℕ} → IsExcess k i → WordFault s k i p n → n ≡ 3
  excess_wrong x (WordFault.not_vars a b c) = absurd (omega (arith, excess_numbers x))
  excess_wrong x (WordFault.not_sym a b c) = absurd (omega (arith, excess_numbers x))
  excess_wrong x (WordFault.seventeenth a b c) = refl
  excess_wrong x (WordFault.no_name d a) = absurd (omega (arith, excess_numbers x, declares_numbers d))
  excess_wrong x (WordFault.long_name d a b) = refl
  excess_wrong x (WordFault.already d a b c f) = absurd (omega (arith, excess_numbers x, declares_numbers d))
  excess_wrong x (WordFault.no_kind a b c) = absurd (omega (arith, excess_numbers x))
  excess_wrong x (WordFault.no_argument a b c g) = absurd (omega (arith, (excess_numbers x).1 a.0))
  excess_wrong x (WordFault.no_number a b c) = absurd (omega (arith, (excess_numbers x).1 a.0))
  excess_wrong x (WordFault.long_argument a b c) = refl
  excess_wrong x (WordFault.undeclared_argument a b c g) = absurd (omega (arith, (excess_numbers x).1 a.0))
  excess_wrong x (WordFault.symbol_argument a b c g) = absurd (omega (arith, (excess_numbers x).1 a.0))
  excess_wrong x (WordFault.fifth_variable a b) = refl
  excess_wrong x (WordFault.fifth_argument a b) = refl
