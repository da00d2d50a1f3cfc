-- KIND, and the numbers among ARGS, as words. Decimal numbers are written and found by one law each, over any count of digits (`decimal_read`,
-- `decimal_found`); a kind's three digits and a fixed number's ten are instances.
use mathlib.Core.Path.{◌≡◌, refl, sym, ap, ap₂, subst, ◌∙◌}
use mathlib.Core.Bool.{Bool, true, false, cond, not, ◌&&◌, ◌||◌, true≢false}
use mathlib.Core.List.{[], ◌∷◌, ◌++◌, append_assoc, append-nil}
use mathlib.Core.Logic.{◌↔◌, ⊎_elim}
use Prim.Native.Nat.{ℕ, zero, suc, ◌+◌, ◌-◌, ◌*◌, ◌/◌, ◌%◌, ◌^◌, ◌≤◌, ◌<◌}
use native.Mathlib.Omega.{arith}
use borrow.Author.Tests.{not-true, eqb-true, eqb-false, ne_eqb, leb-true, le-leb, lt-ltb, le-ltb, ltb-true, ltb-false}
use lib.Dec.{eqb, leb, ltb}
use lib.ListN.{length, length-append}
use Rattle.laws.specs.Lists.{all}
use Rattle.laws.proofs.Lists.{and_true_split, or_true_split, all_more, either}
use Rattle.form.specs.Text.{Bytes, is_digit, decimal_in, decimal}
use Rattle.form.specs.Scan.{value, kind_of, is_number, word_end}
use Rattle.parsing.proofs.Words.{Word, word_end_law, word_part, is_word}
use Rattle.parsing.proofs.Names.{at_first, bytes_word}

-- digits
is_digit_of : (a : ℕ) → a < 10 → is_digit (48 + a) ≡ true
is_digit_of a h = ap₂ ◌&&◌ (le-leb 48 (48 + a) (omega arith)) (le-leb (48 + a) 57 (omega arith))

digit_of : (b : ℕ) → is_digit b ≡ true → (48 ≤ b) × (b ≤ 57)
digit_of b h = let a = and_true_split (leb 48 b) (leb b 57) h in (leb-true 48 b a.0, leb-true b 57 a.1)

digits_of : (b : ℕ) (w : Bytes) → all is_digit (b ∷ w) ≡ true → (48 ≤ b) × (b ≤ 57) × (all is_digit w ≡ true)
digits_of b w h = let a = and_true_split (is_digit b) (all is_digit w) h in let d = digit_of b a.0 in (d.0, d.1, a.1)

value_more : (a : ℕ) (w : Bytes) (b : ℕ) → value a (w ++ (b ∷ [])) ≡ value a w * 10 + (b - 48)
value_more a [] b = refl
value_more a (c ∷ w) b = value_more (a * 10 + (c - 48)) w b

-- the word w writes the number n in at most k digits, without extra leading zeros
record Numeral (k n : ℕ) (w : Bytes) : Type 0 where
  first : ℕ
  more : Bytes
  word : w ≡ first ∷ more
  few : length more < k
  digits : all is_digit (first ∷ more) ≡ true
  plain : first ≡ 48 → (n ≡ 0) × (length more ≡ 0)
  means : value 0 (first ∷ more) ≡ n

numeral_one : (k n : ℕ) → n < 10 → Numeral (suc k) n ((48 + n) ∷ [])
numeral_one k n h = record {
  first = 48 + n;
  more = [];
  word = refl;
  few = omega arith;
  digits = rw (is_digit_of n h);
  plain = λ e. (omega arith, refl);
  means = omega arith;
}

numeral_more : (k n : ℕ) (w : Bytes) → 10 ≤ n → Numeral k (n / 10) w → Numeral (suc k) n (w ++ ((48 + n % 10) ∷ []))
numeral_more k n w h r = record {
  first = r.first;
  more = r.more ++ ((48 + n % 10) ∷ []);
  word = ap (◌++ ((48 + n % 10) ∷ [])) r.word;
  few = omega (arith, r.few, length-append r.more ((48 + n % 10) ∷ []));
  digits = all_more is_digit (r.first ∷ r.more) (48 + n % 10) r.digits (is_digit_of (n % 10) (omega arith));
  plain = λ e. absurd (omega (arith, (r.plain e).0));
  means = omega (arith, value_more 0 (r.first ∷ r.more) (48 + n % 10), r.means);
}

-- what is written: a number below the k-th power of ten, in at most k digits
decimal_read : (k n : ℕ) → n < 10 ^ suc k → Numeral (suc k) n (decimal_in (suc k) n)
decimal_read zero n h = rw (lt-ltb n 10 (omega arith)) (numeral_one 0 n (omega arith))
decimal_read (suc k) n h =
    either (Numeral (suc (suc k)) n) (ltb n 10) (λ e. numeral_one (suc k) n (ltb-true n 10 e))
    (λ e. numeral_more (suc k) n (decimal_in (suc k) (n / 10)) (ltb-false n 10 e) (decimal_read k (n / 10) (omega arith)))

-- what is found: digits behind a number that is not 0, and then any word of digits
decimal_behind : (k m a : ℕ) (w : Bytes) → m ≡ length w + k → 1 ≤ a → all is_digit w ≡ true → decimal_in m (value a w) ≡ decimal_in k a ++ w
decimal_behind k m a [] e some h = let i : m ≡ k = omega arith in ap (λ i. decimal_in i a) i ∙ sym (append-nil (decimal_in k a))
decimal_behind k m a (b ∷ w) e some h =
    let (l, r, d) = digits_of b w h in
    let c = a * 10 + (b - 48) in
    let x : c / 10 ≡ a = omega arith in
    let y : 48 + c % 10 ≡ b = omega arith in
    let tens : decimal_in (suc k) c ≡ decimal_in k a ++ (b ∷ []) = rw (le-ltb c 10 (omega arith), x, y) in
    decimal_behind (suc k) m c w (omega arith) (omega arith) d ∙ ap (◌++ w) tens ∙ append_assoc (decimal_in k a) (b ∷ []) w

decimal_found : (k b : ℕ) (w : Bytes) → length w < k → all is_digit (b ∷ w) ≡ true → (b ≡ 48 → length w ≡ 0) → decimal_in k (value 0 (b ∷ w)) ≡ b ∷ w
decimal_found k b w l h z = by k w l (digits_of b w h) z
  where
    one : (k : ℕ) → 48 ≤ b → b ≤ 57 → decimal_in (suc k) (0 * 10 + (b - 48)) ≡ b ∷ []
    one k x y = let e : 48 + (0 * 10 + (b - 48)) ≡ b = omega arith in rw (lt-ltb (0 * 10 + (b - 48)) 10 (omega arith), e)

    by : (k : ℕ) (w : Bytes) → length w < k → (48 ≤ b) × (b ≤ 57) × (all is_digit w ≡ true) → (b ≡ 48 → length w ≡ 0)
        → decimal_in k (value (0 * 10 + (b - 48)) w) ≡ b ∷ w
    by zero w l d z = absurd (omega arith)
    by (suc k) [] l (x, y, d) z = one k x y
    by (suc k) (c ∷ w) l (x, y, d) z =
        let n : b ≡ 48 → ⊥ = λ e. omega (arith, z e) in
        let i = k - suc (length w) in
        decimal_behind (suc i) (suc k) (0 * 10 + (b - 48)) (c ∷ w) (omega arith) (omega arith) d ∙ ap (◌++ (c ∷ w)) (one i x y)

-- so further room for digits changes nothing
decimal_same : (k m n : ℕ) → suc k ≤ m → n < 10 ^ suc k → decimal_in (suc k) n ≡ decimal_in m n
decimal_same k m n l h =
    let r = decimal_read k n h in
    r.word ∙ sym (decimal_found m r.first r.more (omega (arith, r.few)) r.digits (λ e. (r.plain e).1)) ∙ ap (decimal_in m) r.means

decimal_numeral : (k n : ℕ) → suc k ≤ 10 → n < 10 ^ suc k → Numeral (suc k) n (decimal n)
unfolding decimal
decimal_numeral k n l h = subst (Numeral (suc k) n) (decimal_same k 10 n l h) (decimal_read k n h)

decimal_of : (b : ℕ) (w : Bytes) → length w < 10 → all is_digit (b ∷ w) ≡ true → (b ≡ 48 → length w ≡ 0) → b ∷ w ≡ decimal (value 0 (b ∷ w))
unfolding decimal
decimal_of b w l h z = sym (decimal_found 10 b w l h z)

-- "without extra leading zeros": a digit, or the digits of its tenth and one more
pub decimal_tenth : (n : ℕ) → 10 ≤ n → n < 10000000000 → decimal n ≡ decimal (n / 10) ++ ((48 + n % 10) ∷ [])
unfolding decimal
decimal_tenth n l h = rw (le-ltb n 10 l) (ap (◌++ ((48 + n % 10) ∷ [])) (decimal_same 8 10 (n / 10) (omega arith) (omega arith)))

-- KIND: the number that a word writes, or 0
abbrev pub kind_in : Bytes → ℕ
kind_in [] = 0
kind_in (b ∷ w) =
    let n = value 0 (b ∷ w) in
    cond (leb (length (b ∷ w)) 3 && all is_digit (b ∷ w) && not (eqb b 48)) (cond (leb n 255) n 0) 0

pub kind_of_law : {s : Bytes} {p : ℕ} {w rest : Bytes} → Word s p w rest → 1 ≤ length w → kind_of s p (word_end s p) ≡ kind_in w
unfolding kind_of
kind_of_law {w = []} h some = absurd (omega arith)
kind_of_law {p} {w = b ∷ w} h some =
    let e : p + suc (length w) - p ≡ suc (length w) = omega arith in
    rw (word_part h, word_end_law h, at_first h, e)

-- a kind's decimal is read back
pub kind_read : (n : ℕ) → 1 ≤ n → n ≤ 255 → (kind_in (decimal n) ≡ n) × (is_word (decimal n) ≡ true)
kind_read n h k =
    let r = decimal_numeral 2 n (omega arith) (omega arith) in
    let b = r.first in
    let w = r.more in
    let z = ne_eqb b 48 (λ e. omega (arith, (r.plain e).0)) in
    rw r.word (
      rw (le-leb (suc (length w)) 3 r.few, r.digits, z, r.means, le-leb n 255 k),
      bytes_word is_digit refl refl refl (b ∷ w) (omega arith) r.digits,
    )

-- where a kind is read, its decimal stands
pub kind_found : (w : Bytes) → (kind_in w ≡ 0 → ⊥) → (w ≡ decimal (kind_in w)) × (1 ≤ kind_in w) × (kind_in w ≤ 255)
kind_found [] h = absurd (h refl)
kind_found (b ∷ w) h = by _ (leb (value 0 (b ∷ w)) 255) refl refl h
  where
    by : (t u : Bool) → (leb (length (b ∷ w)) 3 && all is_digit (b ∷ w) && not (eqb b 48)) ≡ t → leb (value 0 (b ∷ w)) 255 ≡ u
        → let n : ℕ = cond t (cond u (value 0 (b ∷ w)) 0) 0 in (n ≡ 0 → ⊥) → (b ∷ w ≡ decimal n) × (1 ≤ n) × (n ≤ 255)
    by true true e f g =
        let a = and_true_split (leb (length (b ∷ w)) 3 && all is_digit (b ∷ w)) (not (eqb b 48)) e in
        let c = and_true_split (leb (length (b ∷ w)) 3) (all is_digit (b ∷ w)) a.0 in
        let z = eqb-false b 48 (not-true (eqb b 48) a.1) in (
          decimal_of b w (omega (arith, leb-true (length (b ∷ w)) 3 c.0)) c.1 (λ i. absurd (z i)),
          omega arith,
          leb-true (value 0 (b ∷ w)) 255 f,
        )
    by true false e f g = absurd (g refl)
    by false u e f g = absurd (g refl)

-- the test for extra leading zeros: a first digit b with n more
pub plain_tested : (n b : ℕ) → ((eqb n 0 || not (eqb b 48)) ≡ true) ↔ (b ≡ 48 → n ≡ 0)
plain_tested n b = (
  λ h e. ⊎_elim (eqb-true n 0) (λ z. absurd (eqb-false b 48 (not-true (eqb b 48) z) e)) (or_true_split (eqb n 0) _ h),
  back (eqb n 0) (eqb b 48) refl refl,
)
  where
    back : (t u : Bool) → eqb n 0 ≡ t → eqb b 48 ≡ u → (b ≡ 48 → n ≡ 0) → (t || not u) ≡ true
    back true u e i f = refl
    back false false e i f = refl
    back false true e i f = absurd (eqb-false n 0 e (f (eqb-true b 48 i)))

-- a fixed number's decimal is read back
pub number_read : (n : ℕ) → n ≤ 4294967295 → (is_number (decimal n) ≡ true) × (value 0 (decimal n) ≡ n) × (all is_digit (decimal n) ≡ true)
number_read n h =
    let r = decimal_numeral 9 n (omega arith) (omega arith) in
    let b = r.first in
    let w = r.more in
    let z = (plain_tested (length w) b).1 (λ e. (r.plain e).1) in
    rw r.word (rw (le-leb (suc (length w)) 10 r.few, r.digits, z, r.means, le-leb n 4294967295 h), r.means, r.digits)

-- what the test of a fixed number finds
number_tests : (b : ℕ) (w : Bytes) → is_number (b ∷ w) ≡ true
    → (length w < 10) × (all is_digit (b ∷ w) ≡ true) × (b ≡ 48 → length w ≡ 0) × (value 0 (b ∷ w) ≤ 4294967295)
number_tests b w h =
    let few = leb (length (b ∷ w)) 10 in
    let digits = all is_digit (b ∷ w) in
    let plain = eqb (length w) 0 || not (eqb b 48) in
    let (t, m) = and_true_split (few && digits && plain) (leb (value 0 (b ∷ w)) 4294967295) h in
    let (u, z) = and_true_split (few && digits) plain t in
    let (l, d) = and_true_split few digits u in
    (leb-true (length (b ∷ w)) 10 l, d, (plain_tested (length w) b).0 z, leb-true (value 0 (b ∷ w)) 4294967295 m)

pub number_digits_law : (w : Bytes) → is_number w ≡ true → (1 ≤ length w) × (length w ≤ 10) × (all is_digit w ≡ true)
number_digits_law [] h = absurd (true≢false (sym h))
number_digits_law (b ∷ w) h = let (l, d, z, m) = number_tests b w h in (omega arith, l, d)

-- where a fixed number is read, its decimal stands
pub number_found : (w : Bytes) → is_number w ≡ true → (w ≡ decimal (value 0 w)) × (value 0 w ≤ 4294967295)
number_found [] h = absurd (true≢false (sym h))
number_found (b ∷ w) h = let (l, d, z, m) = number_tests b w h in (decimal_of b w l d z, m)
