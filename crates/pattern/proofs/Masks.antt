-- The masks of a pattern hold only its own positions, fit the word, and their ones are counted right.
use mathlib.Core.Path.{◌≡◌, refl, ◌∙◌}
use mathlib.Core.Bool.{Bool, true, false, cond}
use mathlib.Core.Logic.{◌⊎◌, inl, inr, ⊎_elim}
use mathlib.Core.List.{List, ◌++◌}
use Prim.Native.Nat.{ℕ, suc, ◌+◌, ◌-◌, ◌^◌, ◌≤◌, ◌<◌}
use native.Mathlib.Omega.{arith}
use lib.Count.{ones}
use lib.Dec.{ltb}
use lib.ListN.{length, get_or, length-append, get_or-append}
use lib.Seq.{get_or-append-add}
use borrow.Author.Tests.{ltb-true, ltb-false}
use Rattle.laws.proofs.Bits.{below_of_bits, ones_set_bits}
use Rattle.laws.specs.Bits.{bit, join, set_bits}
use Rattle.laws.specs.Lists.{keep, numbers}
use Rattle.pattern.proofs.Members.{has_zero, has_join, has_given, has_test, has_single}
use Rattle.pattern.specs.Regex.{Regex, lit, cat, alt, star, plus, opt, nullable}
use Rattle.pattern.specs.Positions.{size, symbols, symbol_at, beginning, ending, following, given, Has}

-- p is one of the positions of r, when the leftmost is k
pub record Among (r : Regex) (k p : ℕ) : Type 0 where
  pub low : k ≤ p
  pub high : p < k + size r

pub beginning_among : (r : Regex) (k p : ℕ) → Has p (beginning r k) → Among r k p
beginning_among (lit a) k p h = omega (arith, (has_single p k).0 h)
beginning_among (cat r s) k p h =
    ⊎_elim (λ x. omega (arith, beginning_among r k p x)) (λ y. omega (arith, beginning_among s (k + size r) p ((has_given p _ (nullable r)).0 y).1))
    ((has_join p _ _).0 h)
beginning_among (alt r s) k p h =
    ⊎_elim (λ x. omega (arith, beginning_among r k p x)) (λ y. omega (arith, beginning_among s (k + size r) p y)) ((has_join p _ _).0 h)
beginning_among (star r) k p h = omega (arith, beginning_among r k p h)
beginning_among (plus r) k p h = omega (arith, beginning_among r k p h)
beginning_among (opt r) k p h = omega (arith, beginning_among r k p h)

pub ending_among : (r : Regex) (k p : ℕ) → Has p (ending r k) → Among r k p
ending_among (lit a) k p h = omega (arith, (has_single p k).0 h)
ending_among (cat r s) k p h =
    ⊎_elim (λ x. omega (arith, ending_among r k p ((has_given p _ (nullable s)).0 x).1)) (λ y. omega (arith, ending_among s (k + size r) p y))
    ((has_join p _ _).0 h)
ending_among (alt r s) k p h =
    ⊎_elim (λ x. omega (arith, ending_among r k p x)) (λ y. omega (arith, ending_among s (k + size r) p y)) ((has_join p _ _).0 h)
ending_among (star r) k p h = omega (arith, ending_among r k p h)
ending_among (plus r) k p h = omega (arith, ending_among r k p h)
ending_among (opt r) k p h = omega (arith, ending_among r k p h)

-- from the end of r the step goes on to m
step_cases : (r : Regex) (k p q m : ℕ) → Has q (join (following r k p) (given (bit p (ending r k)) m)) → Has q (following r k p) ⊎ (Among r k p × Has q m)
step_cases r k p q m h =
    ⊎_elim inl (λ y. let e = (has_given q m (bit p (ending r k))).0 y in inr (ending_among r k p e.0, e.1)) ((has_join q _ _).0 h)

-- both ends of a step
pub following_among : (r : Regex) (k p q : ℕ) → Has q (following r k p) → Among r k p × Among r k q
following_among (lit a) k p q h = absurd (has_zero q h)
following_among (cat r s) k p q h =
    ⊎_elim
    (λ x. ⊎_elim (λ y. omega (arith, following_among r k p q y)) (λ z. omega (arith, beginning_among s (k + size r) q z.1)) (step_cases r k p q _ x))
    (λ y. omega (arith, following_among s (k + size r) p q y)) (has_test q _ _ (ltb p (k + size r)) h)
following_among (alt r s) k p q h =
    ⊎_elim (λ x. omega (arith, following_among r k p q x)) (λ y. omega (arith, following_among s (k + size r) p q y))
    (has_test q _ _ (ltb p (k + size r)) h)
following_among (star r) k p q h =
    ⊎_elim (λ x. omega (arith, following_among r k p q x)) (λ y. omega (arith, beginning_among r k q y.1)) (step_cases r k p q _ h)
following_among (plus r) k p q h =
    ⊎_elim (λ x. omega (arith, following_among r k p q x)) (λ y. omega (arith, beginning_among r k q y.1)) (step_cases r k p q _ h)
following_among (opt r) k p q h = omega (arith, following_among r k p q h)

pub beginning_below : (r : Regex) (k n : ℕ) → k + size r ≤ n → beginning r k < 2 ^ n
beginning_below r k n h = below_of_bits n _ (λ p b. omega (arith, beginning_among r k p b))

pub ending_below : (r : Regex) (k n : ℕ) → k + size r ≤ n → ending r k < 2 ^ n
ending_below r k n h = below_of_bits n _ (λ p b. omega (arith, ending_among r k p b))

pub following_below : (r : Regex) (k p n : ℕ) → k + size r ≤ n → following r k p < 2 ^ n
following_below r k p n h = below_of_bits n _ (λ q b. omega (arith, following_among r k p q b))

pub size_pos : (r : Regex) → 1 ≤ size r
size_pos (lit a) = omega arith
size_pos (cat r s) = omega (arith, size_pos r)
size_pos (alt r s) = omega (arith, size_pos r)
size_pos (star r) = size_pos r
size_pos (plus r) = size_pos r
size_pos (opt r) = size_pos r

pub symbols_length : (r : Regex) → length (symbols r) ≡ size r
symbols_length (lit a) = refl
symbols_length (cat r s) = rw (length-append, symbols_length r, symbols_length s)
symbols_length (alt r s) = rw (length-append, symbols_length r, symbols_length s)
symbols_length (star r) = symbols_length r
symbols_length (plus r) = symbols_length r
symbols_length (opt r) = symbols_length r

-- index p of two lists, one after the other, the first with `size r` elements from index k on
two_lists : (r : Regex) (l : List ℕ) (k p x y : ℕ) → k ≤ p → (p < k + size r → x ≡ get_or (symbols r) (p - k) 0) →
    (k + size r ≤ p → y ≡ get_or l (p - (k + size r)) 0) → cond (ltb p (k + size r)) x y ≡ get_or (symbols r ++ l) (p - k) 0
two_lists r l k p x y low left right = go (ltb p (k + size r)) refl
  where
    go : (t : Bool) → ltb p (k + size r) ≡ t → cond t x y ≡ get_or (symbols r ++ l) (p - k) 0
    go true e =
        let h = ltb-true p (k + size r) e in
        rw (get_or-append (symbols r) l 0 (p - k) (omega (arith, symbols_length r))) (left h)
    go false e =
        let h = ltb-false p (k + size r) e in
        let index : p - k ≡ length (symbols r) + (p - (k + size r)) = omega (arith, symbols_length r) in
        rw (index, get_or-append-add) (right h)

-- the symbol of a position is the one at its index in the list of symbols
pub symbol_at_list : (r : Regex) (k p : ℕ) → Among r k p → symbol_at r k p ≡ get_or (symbols r) (p - k) 0
symbol_at_list (lit a) k p h = let index : p - k ≡ 0 = omega arith in rw index
symbol_at_list (cat r s) k p h =
    two_lists r (symbols s) k p _ _ h.low (λ l. symbol_at_list r k p (omega arith)) (λ l. symbol_at_list s (k + size r) p (omega arith))
symbol_at_list (alt r s) k p h =
    two_lists r (symbols s) k p _ _ h.low (λ l. symbol_at_list r k p (omega arith)) (λ l. symbol_at_list s (k + size r) p (omega arith))
symbol_at_list (star r) k p h = symbol_at_list r k p (omega arith)
symbol_at_list (plus r) k p h = symbol_at_list r k p (omega arith)
symbol_at_list (opt r) k p h = symbol_at_list r k p (omega arith)

-- the ones of a set of positions 1 to n, which has no bit 0, are its positions
pub count_ones : (n m : ℕ) → ((p : ℕ) → Has p m → (1 ≤ p) × (p < 1 + n)) → ones m ≡ length (keep (λ p. bit p m) (numbers 1 n))
unfolding set_bits
count_ones n m h = ones_set_bits (suc n) m (below_of_bits (suc n) m (λ p b. omega (arith, h p b))) ∙ rw (go (bit 0 m) refl)
  where
    go : (b : Bool) → bit 0 m ≡ b → bit 0 m ≡ false
    go true e = absurd (omega (arith, h 0 e))
    go false e = e

-- "counts of ones of the 32-bit position masks, equal to the number of such positions"
pub count_beginning : (r : Regex) → ones (beginning r 1) ≡ length (keep (λ p. bit p (beginning r 1)) (numbers 1 (size r)))
count_beginning r = count_ones (size r) (beginning r 1) (λ p b. omega (arith, beginning_among r 1 p b))

pub count_ending : (r : Regex) → ones (ending r 1) ≡ length (keep (λ p. bit p (ending r 1)) (numbers 1 (size r)))
count_ending r = count_ones (size r) (ending r 1) (λ p b. omega (arith, ending_among r 1 p b))
