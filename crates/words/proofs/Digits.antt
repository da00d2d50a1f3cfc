-- Digits read one after the other, and all of them tested.
use mathlib.Core.Path.{◌≡◌, refl, sym, ap, ◌∙◌}
use mathlib.Core.Bool.{Bool, true, ◌&&◌}
use mathlib.Core.List.{[], ◌∷◌}
use Prim.Native.Nat.{ℕ, ◌+◌, ◌-◌, ◌*◌, ◌^◌, ◌≤◌, ◌<◌}
use native.Mathlib.Nat.{pow-suc, pow-le-pow_right}
use native.Mathlib.Numerals.{add-one}
use native.Mathlib.Omega.{arith}
use borrow.Author.Tests.{leb-true}
use lib.Dec.{leb}
use lib.ListN.{length, get_or, drop, drop_of_length-le}
use lib.Seq.{drop-cons}
use Rattle.std.specs.List.{list_all}
use Rattle.laws.specs.Lists.{all}
use Rattle.laws.proofs.Lists.{and_true_split}
use Rattle.form.specs.Text.{Bytes, is_digit}
use Rattle.form.specs.Scan.{value}

pub all_law : (f : ℕ → Bool) (w : Bytes) → list_all f w ≡ all f w
all_law f [] = refl
all_law f (b ∷ w) = ap (λ r. f b && r) (all_law f w)

-- Where a loop over the digits of the word w stands: before the one at i, with the value n of those passed.
pub record Read (w : Bytes) (n i : ℕ) : Type 0 where
  pub few : n < 10 ^ i
  pub digits : all is_digit (drop i w) ≡ true
  pub same : value n (drop i w) ≡ value 0 w

pub read_none : (w : Bytes) → all is_digit w ≡ true → Read w 0 0
read_none w d = record { few = omega arith; digits = d; same = refl }

module _ (w : Bytes) (n i : ℕ) (r : Read w n i) where
  pub read_all : length w ≤ i → n ≡ value 0 w
  read_all h = ap (value n) (sym (drop_of_length-le w {i = i} h)) ∙ r.same

  module _ (l : i < length w) where
    pub read_small : length w ≤ 10 → n < 1000000000
    read_small k = let m : i ≤ 9 = omega arith in omega (arith, r.few, pow-le-pow_right {n = 10} (omega arith) m)

    first : drop i w ≡ get_or w i 0 ∷ drop (i + 1) w
    first = rw (add-one i) (drop-cons w i 0 l)

    digit_first : (is_digit (get_or w i 0) ≡ true) × (all is_digit (drop (i + 1) w) ≡ true)
    digit_first = and_true_split (is_digit (get_or w i 0)) _ (ap (all is_digit) (sym first) ∙ r.digits)

    pub read_digit : (48 ≤ get_or w i 0) × (get_or w i 0 ≤ 57)
    read_digit =
        let d = and_true_split (leb 48 (get_or w i 0)) _ digit_first.0 in
        (leb-true 48 _ d.0, leb-true _ 57 d.1)

    pub read_more : Read w (n * 10 + (get_or w i 0 - 48)) (i + 1)
    read_more =
        let d = read_digit in
        record {
          few = rw (add-one i, pow-suc 10 i) (omega (arith, r.few));
          digits = digit_first.1;
          same = ap (value n) (sym first) ∙ r.same;
        }
