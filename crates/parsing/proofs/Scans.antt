-- Laws of scanning: how far runs go, and what stands there.
use mathlib.Core.Path.{◌≡◌, refl, sym, ap, ◌∙◌}
use mathlib.Core.Bool.{Bool, true, false, cond, not, ◌||◌, false≢true}
use mathlib.Core.List.{[], ◌∷◌}
use mathlib.Core.Logic.{◌↔◌, ◌⊎◌, inl, inr, ⊎_elim}
use Prim.Native.Nat.{ℕ, zero, suc, compare, ◌+◌, ◌≤◌, ◌<◌}
use native.Mathlib.Omega.{arith}
use borrow.Author.Tests.{not-true, eqb-false}
use lib.Dec.{eqb}
use lib.ListN.{length, get_or, drop, length-drop, get_or-eq_default}
use lib.Seq.{drop-cons}
use Rattle.laws.specs.Lists.{all}
use Rattle.laws.specs.Order.{lex}
use Rattle.laws.proofs.Lists.{and_true_split}
use Rattle.laws.proofs.Order.{compare_order, lex_order}
use Rattle.laws.proofs.Sets.{same_eq}
use Rattle.form.specs.Text.{Bytes, is_lower, is_digit, is_name_byte}
use Rattle.form.specs.Form.{same_word}
use Rattle.form.specs.Scan.{at, past_end, run, is_space, is_word_byte, spaces_end, word_end, name_end}

-- a run goes at most to the end
pub run_le : (f : ℕ → Bool) (l : Bytes) → run f l ≤ length l
run_le f [] = omega arith
run_le f (b ∷ l) = go (f b) (run_le f l)
  where
    go : (t : Bool) → run f l ≤ length l → cond t (suc (run f l)) 0 ≤ suc (length l)
    go true h = omega arith
    go false h = omega arith

-- from a place inside, it ends inside
run_inside : (f : ℕ → Bool) (s : Bytes) (p : ℕ) → p ≤ length s → p + run f (drop p s) ≤ length s
run_inside f s p h = omega (arith, run_le f (drop p s), length-drop p s)

pub spaces_end_le : (s : Bytes) (p : ℕ) → p ≤ length s → spaces_end s p ≤ length s
unfolding spaces_end
spaces_end_le = run_inside is_space

pub spaces_end_ge : (s : Bytes) (p : ℕ) → p ≤ spaces_end s p
unfolding spaces_end
spaces_end_ge s p = omega arith

pub word_end_le : (s : Bytes) (p : ℕ) → p ≤ length s → word_end s p ≤ length s
unfolding word_end
word_end_le = run_inside is_word_byte

pub word_end_ge : (s : Bytes) (p : ℕ) → p ≤ word_end s p
unfolding word_end
word_end_ge s p = omega arith

pub name_end_le : (s : Bytes) (p : ℕ) → p ≤ length s → name_end s p ≤ length s
unfolding name_end
name_end_le s p h = go (is_lower (at s p))
  where
    go : (t : Bool) → cond t (p + run is_name_byte (drop p s)) p ≤ length s
    go true = run_inside is_name_byte s p h
    go false = h

pub name_end_ge : (s : Bytes) (p : ℕ) → p ≤ name_end s p
unfolding name_end
name_end_ge s p = go (is_lower (at s p))
  where
    go : (t : Bool) → p ≤ cond t (p + run is_name_byte (drop p s)) p
    go true = omega arith
    go false = omega arith

-- past the end there is no byte, and only there
pub at_end_law : (s : Bytes) (p : ℕ) → length s ≤ p → at s p ≡ past_end
at_end_law s p h = get_or-eq_default s past_end h

-- a run ends at the end or at a byte that fails the test
pub run_end : (f : ℕ → Bool) (l : Bytes) → (run f l ≡ length l) ⊎ (f (get_or l (run f l) past_end) ≡ false)
run_end f [] = inl refl
run_end f (b ∷ l) = go (f b) refl (run_end f l)
  where
    go : (t : Bool) → f b ≡ t → (run f l ≡ length l) ⊎ (f (get_or l (run f l) past_end) ≡ false)
        → (cond t (suc (run f l)) 0 ≡ suc (length l)) ⊎ (f (get_or (b ∷ l) (cond t (suc (run f l)) 0) past_end) ≡ false)
    go true e (inl h) = inl (ap suc h)
    go true e (inr h) = inr h
    go false e h = inr e

-- which is one where 256 fails it too
pub run_behind : (f : ℕ → Bool) → f past_end ≡ false → (l : Bytes) → f (get_or l (run f l) past_end) ≡ false
run_behind f h l = ⊎_elim (λ e. ap f (at_end_law l (run f l) (omega arith)) ∙ h) (λ e. e) (run_end f l)

-- a test that 256 fails passes only inside
pub inside_of : (f : ℕ → Bool) → f past_end ≡ false → (s : Bytes) (p : ℕ) → f (at s p) ≡ true → p < length s
inside_of f e [] p k = absurd (false≢true (sym e ∙ k))
inside_of f e (b ∷ s) zero k = omega arith
inside_of f e (b ∷ s) (suc p) k = omega (arith, inside_of f e s p k)

-- a run one place further on
pub run_step : (f : ℕ → Bool) (s : Bytes) (p : ℕ) → p < length s → f (at s p) ≡ true → p + run f (drop p s) ≡ suc p + run f (drop (suc p) s)
run_step f s p h k = rw (drop-cons s p past_end h, k) (omega arith)

pub run_stop : (f : ℕ → Bool) (s : Bytes) (p : ℕ) → p < length s → f (at s p) ≡ false → run f (drop p s) ≡ 0
run_stop f s p h k = rw (drop-cons s p past_end h, k)

-- a name that begins has a byte
pub name_end_gt : (s : Bytes) (p : ℕ) → is_lower (at s p) ≡ true → p < name_end s p
unfolding name_end
name_end_gt s p h = rw h (omega (arith, run_step is_name_byte s p (inside_of is_lower refl s p h) (ap (λ t. t || is_digit (at s p)) h)))

pub at_inside : (s : Bytes) (p : ℕ) → all (λ b. not (eqb b past_end)) s ≡ true → at s p ≡ past_end → length s ≤ p
at_inside [] p h e = omega arith
at_inside (b ∷ s) zero h e = absurd (eqb-false b past_end (not-true _ (and_true_split (not (eqb b past_end)) _ h).0) e)
at_inside (b ∷ s) (suc p) h e = omega (arith, at_inside s p (and_true_split (not (eqb b past_end)) _ h).1 e)

-- the same word is the same bytes
pub same_word_law : (v w : Bytes) → (same_word v w ≡ true) ↔ (v ≡ w)
same_word_law v w = let o = lex_order compare_order in (
  λ h. o.equal v w (same_eq (lex compare v w) h),
  λ e. rw (e, o.self w),
)
