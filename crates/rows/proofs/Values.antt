-- The comparison of two lists of values from the k-th value on, by their k-th values. For the recursive comparison of valuations.
use mathlib.Core.Path.{◌≡◌, ap, ◌∙◌}
use mathlib.Core.List.{List}
use Prim.Native.Nat.{Ordering}
use Prim.Native.Nat.{ℕ, ◌+◌, ◌≤◌, ◌<◌}
use native.Mathlib.Numerals.{add-one}
use lib.ListN.{length, get_or, drop, drop_of_length-le}
use lib.Seq.{drop-cons}
use Rattle.laws.specs.Order.{flip}
use Rattle.laws.proofs.Order.{lt_compare, compare_order}
use Rattle.meaning.specs.Rows.{compare_valuations}

-- no value is left
pub none_left : (a b : List ℕ) (k : ℕ) → length a ≤ k → length b ≤ k → compare_valuations (drop k a) (drop k b) ≡ Ordering.eq
none_left a b k p q = rw (drop_of_length-le a p, drop_of_length-le b q)

module _ (a b : List ℕ) (k : ℕ) (p : k < length a) (q : k < length b) where
  pub first_before : get_or a k 0 < get_or b k 0 → compare_valuations (drop k a) (drop k b) ≡ Ordering.lt
  first_before h = rw (drop-cons a k 0 p, drop-cons b k 0 q, lt_compare (get_or a k 0) (get_or b k 0) h)

  pub first_after : get_or b k 0 < get_or a k 0 → compare_valuations (drop k a) (drop k b) ≡ Ordering.gt
  first_after h =
      rw (
        drop-cons a k 0 p,
        drop-cons b k 0 q,
        compare_order.turned (get_or b k 0) (get_or a k 0) ∙ ap flip (lt_compare (get_or b k 0) (get_or a k 0) h),
      )

  pub first_same : get_or a k 0 ≡ get_or b k 0 → compare_valuations (drop k a) (drop k b) ≡ compare_valuations (drop (k + 1) a) (drop (k + 1) b)
  first_same h = rw (add-one k, drop-cons a k 0 p, drop-cons b k 0 q, h, compare_order.self (get_or b k 0))
