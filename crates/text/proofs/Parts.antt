-- Laws of the part of a text from one place to another: its length, what stands in it, its first byte; words compared, and digits read.
use mathlib.Core.Path.{◌≡◌, refl, sym, ap, ◌∙◌}
use mathlib.Core.Bool.{Bool, true, false}
use mathlib.Core.List.{[], ◌∷◌}
use Prim.Native.Nat.{ℕ, suc, ◌+◌, ◌-◌, ◌*◌, ◌^◌, ◌≤◌, ◌<◌}
use native.Mathlib.Nat.{pow-suc, pow-le-pow_right}
use native.Mathlib.Numerals.{add-one}
use native.Mathlib.Omega.{arith}
use borrow.Author.Tests.{leb-true}
use lib.Dec.{eqb, leb}
use lib.Pointwise.{pointwise}
use lib.ListN.{length, get_or, take, drop, length-drop}
use lib.Seq.{drop-cons, length-take-le, get_or-take, get_or-drop}
use Rattle.std.specs.Cmp.Lexicographic.{same_text, other_text}
use Rattle.laws.specs.Lists.{all}
use Rattle.laws.proofs.Lists.{and_true_split}
use Rattle.form.specs.Text.{Bytes, is_digit}
use Rattle.form.specs.Form.{same_word}
use Rattle.form.specs.Scan.{at, past_end, part, value}
use Rattle.parsing.proofs.Scans.{same_word_law}

module _ (s : Bytes) (p e : ℕ) where
  pub part_length : e ≤ length s → length (part s p e) ≡ e - p
  part_length h = length-take-le (e - p) (drop p s) (omega (arith, length-drop p s))

  pub part_at : (k d : ℕ) → p + k < e → get_or (part s p e) k d ≡ get_or s (p + k) d
  part_at k d h = get_or-take (e - p) (drop p s) k d (omega arith) ∙ get_or-drop p s k d

  pub part_none : e ≤ p → part s p e ≡ []
  part_none h = let z : e - p ≡ 0 = omega arith in ap (λ n. take n (drop p s)) z

  pub part_cons : p < e → e ≤ length s → part s p e ≡ at s p ∷ part s (p + 1) e
  part_cons h k =
      let n : e - p ≡ suc (e - suc p) = omega arith in
      ap (λ n. take n (drop p s)) n ∙ rw (add-one p, drop-cons s p past_end (omega arith))

-- words that are not the same bytes
pub same_not : (v w : Bytes) → (v ≡ w → ⊥) → same_word v w ≡ false
same_not v w h = go (same_word v w) refl
  where
    go : (b : Bool) → same_word v w ≡ b → b ≡ false
    go true e = absurd (h ((same_word_law v w).0 e))
    go false e = refl

-- Where a loop over the digits of the word from p to e stands: at i, with the value n of those before i.
pub record Read (s : Bytes) (p e n i : ℕ) : Type 0 where
  pub behind : p ≤ i
  pub ahead : i ≤ e
  pub few : n < 10 ^ (i - p)
  pub digits : all is_digit (part s i e) ≡ true
  pub same : value n (part s i e) ≡ value 0 (part s p e)

pub read_none : (s : Bytes) (p e : ℕ) → p ≤ e → all is_digit (part s p e) ≡ true → Read s p e 0 p
read_none s p e h d =
    let z : p - p ≡ 0 = omega arith in
    record { behind = omega arith; ahead = h; few = rw z (omega arith); digits = d; same = refl }

module _ (s : Bytes) (p e n i : ℕ) (r : Read s p e n i) where
  pub read_all : e ≤ i → n ≡ value 0 (part s p e)
  read_all h = ap (value n) (sym (part_none s i e h)) ∙ r.same

  module _ (l : i < e) (h : e ≤ length s) where
    pub read_small : e ≤ p + 10 → n < 1000000000
    read_small k = let m : i - p ≤ 9 = omega arith in omega (arith, r.few, pow-le-pow_right {n = 10} (omega arith) m)

    digit_first : (is_digit (at s i) ≡ true) × (all is_digit (part s (i + 1) e) ≡ true)
    digit_first = and_true_split (is_digit (at s i)) _ (ap (all is_digit) (sym (part_cons s i e l h)) ∙ r.digits)

    pub read_digit : (48 ≤ at s i) × (at s i ≤ 57)
    read_digit =
        let d = and_true_split (leb 48 (at s i)) _ digit_first.0 in
        (leb-true 48 _ d.0, leb-true _ 57 d.1)

    pub read_more : Read s p e (n * 10 + (at s i - 48)) (i + 1)
    read_more =
        let d = read_digit in
        let k : i + 1 - p ≡ suc (i - p) = omega (arith, r.behind) in
        record {
          behind = omega (arith, r.behind);
          ahead = omega arith;
          few = rw (k, pow-suc 10 (i - p)) (omega (arith, r.few));
          digits = digit_first.1;
          same = ap (value n) (sym (part_cons s i e l h)) ∙ r.same;
        }

-- two words are the same bytes where each is the other's, as `==` of slices tells it
pub same_bytes : (v w : Bytes) → pointwise eqb v w ≡ same_word v w
same_bytes v w = go (pointwise eqb v w) refl
  where
    go : (b : Bool) → pointwise eqb v w ≡ b → b ≡ same_word v w
    go true e = sym ((same_word_law v w).1 (same_text v w (sym e)))
    go false e = sym (same_not v w (other_text v w (sym e)))
