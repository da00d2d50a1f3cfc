-- Laws of single bits: joining, meeting, shifting, equality of numbers by their bits, and the count of set bits.
use mathlib.Core.Path.{◌≡◌, refl, sym, ap, ap₂, ◌∙◌}
use mathlib.Core.Bool.{Bool, true, false, ◌&&◌, ◌||◌, cond}
use mathlib.Core.List.{List, ◌∷◌}
use Prim.Native.Nat.{ℕ, zero, suc, ◌+◌, ◌*◌, ◌/◌, ◌%◌, ◌^◌, ◌≤◌, ◌<◌, min, max}
use native.Mathlib.Omega.{arith}
use native.Mathlib.Nat.{pow-suc, mod-lt, zero-add, suc-add, add-zero, mul-one, div-one, le_of_suc-le-suc, not-suc-le-zero}
use native.Mathlib.Numerals.{add-one, one-add}
use lib.Arith.{lt-one}
use lib.Bits.{bit_and, bit_or, and_step, or_step, or_zero_l, or_zero_r, or_lt, and_le_l, and_mask, shifted_half, shifted_even}
use lib.Count.{ones, ones_step, ones-le}
use lib.Dec.{eqb}
use lib.ListN.{length}
use lib.Pow.{pow-lt, shr-shr, mod-mod-pow, field}
use Rattle.laws.specs.Lists.{keep, numbers}
use Rattle.laws.specs.Bits.{bit, single, join, meet, set_bits}

pub bit_zero : (p : ℕ) → bit p 0 ≡ false
unfolding bit
bit_zero zero = refl
bit_zero (suc p) = bit_zero p

-- a digit below 2
digit_max : (a b : ℕ) → a < 2 → b < 2 → eqb (max a b) 1 ≡ (eqb a 1 || eqb b 1)
digit_max zero zero p q = refl
digit_max zero (suc zero) p q = refl
digit_max (suc zero) zero p q = refl
digit_max (suc zero) (suc zero) p q = refl
digit_max (suc (suc a)) b p q = absurd (omega arith)
digit_max zero (suc (suc b)) p q = absurd (omega arith)
digit_max (suc zero) (suc (suc b)) p q = absurd (omega arith)

digit_min : (a b : ℕ) → a < 2 → b < 2 → eqb (min a b) 1 ≡ (eqb a 1 && eqb b 1)
digit_min zero zero p q = refl
digit_min zero (suc zero) p q = refl
digit_min (suc zero) zero p q = refl
digit_min (suc zero) (suc zero) p q = refl
digit_min (suc (suc a)) b p q = absurd (omega arith)
digit_min zero (suc (suc b)) p q = absurd (omega arith)
digit_min (suc zero) (suc (suc b)) p q = absurd (omega arith)

two_pos : 0 < 2
two_pos = omega arith

-- the lowest digit of a number and the rest, put together and taken apart again
digits_odd : (r c : ℕ) → c < 2 → (r * 2 + c) % 2 ≡ c
digits_odd r c h = omega arith

digits_rest : (r c : ℕ) → c < 2 → (r * 2 + c) / 2 ≡ r
digits_rest r c h = omega arith

max_digit : (a b : ℕ) → max (a % 2) (b % 2) < 2
max_digit a b = omega (arith, mod-lt a two_pos, mod-lt b two_pos)

min_digit : (a b : ℕ) → min (a % 2) (b % 2) < 2
min_digit a b = omega (arith, mod-lt a two_pos, mod-lt b two_pos)

join_odd : (a b : ℕ) → bit_or a b % 2 ≡ max (a % 2) (b % 2)
join_odd a b = ap (λ (x : ℕ). x % 2) (or_step a b) ∙ digits_odd _ _ (max_digit a b)

join_rest : (a b : ℕ) → bit_or a b / 2 ≡ bit_or (a / 2) (b / 2)
join_rest a b = ap (λ (x : ℕ). x / 2) (or_step a b) ∙ digits_rest _ _ (max_digit a b)

meet_odd : (a b : ℕ) → bit_and a b % 2 ≡ min (a % 2) (b % 2)
meet_odd a b = ap (λ (x : ℕ). x % 2) (and_step a b) ∙ digits_odd _ _ (min_digit a b)

meet_rest : (a b : ℕ) → bit_and a b / 2 ≡ bit_and (a / 2) (b / 2)
meet_rest a b = ap (λ (x : ℕ). x / 2) (and_step a b) ∙ digits_rest _ _ (min_digit a b)

pub bit_join : (p a b : ℕ) → bit p (join a b) ≡ (bit p a || bit p b)
unfolding bit join
bit_join zero a b = ap (λ (x : ℕ). eqb x 1) (join_odd a b) ∙ digit_max _ _ (mod-lt a two_pos) (mod-lt b two_pos)
bit_join (suc p) a b = ap (bit p) (join_rest a b) ∙ bit_join p (a / 2) (b / 2)

pub bit_meet : (p a b : ℕ) → bit p (meet a b) ≡ (bit p a && bit p b)
unfolding bit meet
bit_meet zero a b = ap (λ (x : ℕ). eqb x 1) (meet_odd a b) ∙ digit_min _ _ (mod-lt a two_pos) (mod-lt b two_pos)
bit_meet (suc p) a b = ap (bit p) (meet_rest a b) ∙ bit_meet p (a / 2) (b / 2)

-- doubling
double_odd : (x : ℕ) → x * 2 % 2 ≡ 0
double_odd x = omega arith

double_half : (x : ℕ) → x * 2 / 2 ≡ x
double_half x = omega arith

pub bit_single_same : (p : ℕ) → bit p (single p) ≡ true
unfolding bit single
bit_single_same zero = refl
bit_single_same (suc p) = rw (pow-suc, double_half) (bit_single_same p)

pub bit_single_other : (p q : ℕ) → (q ≡ p → ⊥) → bit q (single p) ≡ false
unfolding bit single
bit_single_other zero zero n = absurd (n refl)
bit_single_other zero (suc q) n = bit_zero q
bit_single_other (suc p) zero n = rw (pow-suc, double_odd) refl
bit_single_other (suc p) (suc q) n = rw (pow-suc, double_half) (bit_single_other p q (λ e. n (ap suc e)))

-- a bit of a number shifted up by k, and of one shifted down by k
pub bit_up : (k p m : ℕ) → bit (k + p) (m * 2 ^ k) ≡ bit p m
unfolding bit
bit_up zero p m = rw (zero-add, mul-one)
bit_up (suc k) p m = rw (suc-add, bit, shifted_half) (bit_up k p m)

pub bit_up_below : (k p m : ℕ) → p < k → bit p (m * 2 ^ k) ≡ false
unfolding bit
bit_up_below zero p m h = absurd (not-suc-le-zero h)
bit_up_below (suc k) zero m h = rw shifted_even
bit_up_below (suc k) (suc p) m h = rw shifted_half (bit_up_below k p m (le_of_suc-le-suc h))

pub bit_down : (k p m : ℕ) → bit p (m / 2 ^ k) ≡ bit (k + p) m
unfolding bit
bit_down zero p m = rw (zero-add, div-one)
bit_down (suc k) p m = rw (suc-add, ← one-add k, ← shr-shr m 1 k) (bit_down k p (m / 2))

-- bit p counts 2 to the p
pub bit_words : (p m : ℕ) → bit p m ≡ eqb (m / 2 ^ p % 2) 1
unfolding bit
bit_words p m = sym (bit_down p 0 m ∙ ap (λ k. bit k m) (add-zero p))

-- cutting a number off at k bits keeps the bits below k
pub bit_cut : (k p m : ℕ) → p < k → bit p (m % 2 ^ k) ≡ bit p m
unfolding bit
bit_cut zero p m h = absurd (not-suc-le-zero h)
bit_cut (suc k) zero m h = rw (← add-one k, mod-mod-pow m k 1)
bit_cut (suc k) (suc p) m h = rw (← add-one k, field m k 1) (bit_cut k p (m / 2) (le_of_suc-le-suc h))

-- halving takes one bit off, and doubling puts it back
half_below : {m : ℕ} (k : ℕ) → m < 2 ^ suc k → m / 2 < 2 ^ k
half_below k h = omega (arith, pow-suc 2 k)

double_below : {m : ℕ} (k : ℕ) → m / 2 < 2 ^ k → m < 2 ^ suc k
double_below k h = omega (arith, pow-suc 2 k)

-- a number below 2 ^ k has no bit from k on
pub bit_above : (k p m : ℕ) → m < 2 ^ k → k ≤ p → bit p m ≡ false
unfolding bit
bit_above zero p m h l = rw (lt-one h) (bit_zero p)
bit_above (suc k) zero m h l = absurd (not-suc-le-zero l)
bit_above (suc k) (suc p) m h l = bit_above k p (m / 2) (half_below k h) (le_of_suc-le-suc l)

-- the lowest digit by its test
count : Bool → ℕ
count b = cond b 1 0

digit_count : (c : ℕ) → c < 2 → c ≡ count (eqb c 1)
unfolding count
digit_count zero h = refl
digit_count (suc zero) h = refl
digit_count (suc (suc c)) h = absurd (omega arith)

odd_count : (m : ℕ) → m % 2 ≡ count (bit 0 m)
unfolding bit
odd_count m = digit_count (m % 2) (mod-lt m two_pos)

-- numbers with the same bits are equal
pub bits_equal_below : (k a b : ℕ) → a < 2 ^ k → b < 2 ^ k → ((p : ℕ) → p < k → bit p a ≡ bit p b) → a ≡ b
unfolding bit
bits_equal_below zero a b ha hb h = omega arith
bits_equal_below (suc k) a b ha hb h =
    let odd : a % 2 ≡ b % 2 = odd_count a ∙ ap count (h 0 (omega arith)) ∙ sym (odd_count b) in
    let rest : a / 2 ≡ b / 2 = bits_equal_below k (a / 2) (b / 2) (half_below k ha) (half_below k hb) (λ p l. h (suc p) (omega arith)) in
    omega arith

-- a number n has at most n bits
below_own : (n : ℕ) → n < 2 ^ n
below_own zero = omega arith
below_own (suc n) = omega (arith, pow-suc 2 n, below_own n)

pub bits_equal : (a b : ℕ) → ((p : ℕ) → bit p a ≡ bit p b) → a ≡ b
bits_equal a b h = bits_equal_below (a + b) a b (omega (arith, below_own (a + b))) (omega (arith, below_own (a + b))) (λ p l. h p)

-- the converse of `bit_above`: a number with no bit from k on is below 2 ^ k
pub below_of_bits : (k m : ℕ) → ((p : ℕ) → bit p m ≡ true → p < k) → m < 2 ^ k
unfolding bit
below_of_bits zero m h = rw (bits_equal m 0 (λ p. none p (bit p m) refl ∙ sym (bit_zero p))) (omega arith)
  where
    none : (p : ℕ) (b : Bool) → bit p m ≡ b → b ≡ false
    none p true e = absurd (not-suc-le-zero (h p e))
    none p false e = refl
below_of_bits (suc k) m h = double_below k (below_of_bits k (m / 2) (λ p e. le_of_suc-le-suc (h (suc p) e)))

-- the test of a bit as code makes it, `(m >> p) & 1 == 1`
pub bit_test : (p m : ℕ) → eqb (bit_and (m / 2 ^ p) 1) 1 ≡ bit p m
unfolding bit
bit_test p m = ap (λ (x : ℕ). eqb x 1) (and_mask (m / 2 ^ p) 1) ∙ bit_down p 0 m ∙ ap (λ (x : ℕ). bit x m) (add-zero p)

pub join_none : (a : ℕ) → join a 0 ≡ a
unfolding join
join_none a = or_zero_r a

pub none_join : (a : ℕ) → join 0 a ≡ a
unfolding join
none_join a = or_zero_l a

pub join_below : (k a b : ℕ) → a < 2 ^ k → b < 2 ^ k → join a b < 2 ^ k
unfolding join
join_below k a b ha hb = or_lt k a b ha hb

pub meet_below : (k a b : ℕ) → a < 2 ^ k → meet a b < 2 ^ k
unfolding meet
meet_below k a b ha = omega (arith, and_le_l a b)

pub single_below : (k p : ℕ) → p < k → single p < 2 ^ k
unfolding single
single_below k p h = pow-lt h

-- what one element adds to the count of those that pass
length_cond : (b : Bool) (x : ℕ) (r : List ℕ) → length (cond b (x ∷ r) r) ≡ count b + length r
unfolding count
length_cond true x r = sym (one-add (length r))
length_cond false x r = sym (zero-add (length r))

-- `numbers (suc s)` is `numbers s` with each number one higher
keep_shift : (f : ℕ → Bool) (s k : ℕ) → length (keep f (numbers (suc s) k)) ≡ length (keep (λ p. f (suc p)) (numbers s k))
keep_shift f s zero = refl
keep_shift f s (suc k) = simp (length_cond, keep_shift f (suc s) k)

-- `ones`, what `count_ones` gives, is how many bits are set
pub ones_set_bits : (k m : ℕ) → m < 2 ^ k → ones m ≡ set_bits k m
unfolding bit set_bits
ones_set_bits zero m h = omega (arith, ones-le 0 m h)
ones_set_bits (suc k) m h =
    ones_step m ∙ ap₂ (λ (x y : ℕ). x + y) (odd_count m) (ones_set_bits k (m / 2) (half_below k h) ∙ sym (keep_shift (λ p. bit p m) 0 k))
    ∙ sym (length_cond (bit 0 m) 0 _)
