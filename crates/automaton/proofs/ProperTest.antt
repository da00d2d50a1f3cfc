-- What is computed of a tracematch decides whether it is one that a text can declare.
use mathlib.Core.Path.{◌≡◌, refl, sym, ap₂, ◌∙◌}
use mathlib.Core.Bool.{Bool, true, false, not, ◌||◌, and-eq-true_iff, false≢true}
use mathlib.Core.List.{List, [], ◌∷◌}
use mathlib.Core.Logic.{◌↔◌, dite}
use Prim.Native.Nat.{ℕ, ◌<◌}
use native.Mathlib.Decide.{ℕ_discrete}
use native.Mathlib.Omega.{arith}
use borrow.Author.Tests.{leb-true, le-leb, eq-eqb, ne_eqb}
use lib.Dec.{eqb}
use lib.ListN.{get_or}
use Rattle.laws.specs.Bits.{bit, single}
use Rattle.laws.specs.Lists.{any, all, numbers}
use Rattle.laws.proofs.Bits.{bit_zero, bit_join, bit_single_same, bit_single_other}
use Rattle.laws.proofs.Lists.{all_at, all_of, mem_numbers}
use Rattle.pattern.proofs.Words as Words
use Rattle.meaning.specs.Events.{Parameter, ignored, names, fixed}
use Rattle.meaning.specs.Meaning.{Tracematch, no_symbol}
use Rattle.meaning.specs.Book.{Proper, is_proper, binds, bound_in}

-- the mask of a symbol has the variables that its places bind
bit_single : (v u : ℕ) → bit v (single u) ≡ eqb v u
bit_single v u = dite (ℕ_discrete v u) (λ e. rw (e, bit_single_same, eq-eqb u u refl)) (λ n. bit_single_other u v n ∙ sym (ne_eqb v u n))

pub bit_bound_in : (v : ℕ) (ps : List Parameter) → bit v (bound_in ps) ≡ any (binds v) ps
bit_bound_in v [] = bit_zero v
bit_bound_in v (ignored ∷ ps) = bit_bound_in v ps
bit_bound_in v (fixed n ∷ ps) = bit_bound_in v ps
bit_bound_in v (names u ∷ ps) = bit_join v (single u) (bound_in ps) ∙ ap₂ ◌||◌ (bit_single v u) (bit_bound_in v ps)

-- a test that passes just where P does not hold, and one of all numbers below n
not_test : {P : Type 0} (b : Bool) → P ↔ (b ≡ true) → (not b ≡ true) ↔ (P → ⊥)
not_test true r = (λ e. absurd (false≢true e), λ n. absurd (n (r.1 refl)))
not_test false r = (λ e p. false≢true (r.0 p), λ n. refl)

pub all_below : (f : ℕ → Bool) (n : ℕ) → (all f (numbers 0 n) ≡ true) ↔ ((v : ℕ) → v < n → f v ≡ true)
all_below f n = (λ h v l. all_at f h ((mem_numbers v 0 n).1 (omega arith)), λ h. all_of f (numbers 0 n) λ v m. h v (omega (arith, (mem_numbers v 0 n).0 m)))

pub proper_test : (tm : Tracematch) → (is_proper tm ≡ true) ↔ Proper tm
unfolding is_proper
proper_test tm =
    let empty = not_test _ (Words.empty_word_law tm.pattern) in
    let vars : ℕ → ℕ = λ a. bound_in (get_or tm.symbols a no_symbol).parameters in
    let bound = simp bit_bound_in at (Words.binding vars tm.pattern) in
    simp and-eq-true_iff (simp (empty, all_below) (simp bound (λ p. search leb-true, λ p. search le-leb)))
