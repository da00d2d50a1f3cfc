-- A part of a list written over: what stands there then, and what stands beside it. For the crates that write elements into lent words.
use mathlib.Core.Path.{◌≡◌, sym, ap, ◌∙◌}
use mathlib.Core.List.{List}
use Prim.Native.Nat.{ℕ, ◌+◌, ◌-◌, ◌≤◌, ◌<◌}
use native.Mathlib.Omega.{arith}
use lib.ListN.{length, take, drop, get_or, length-append, length-take, length-drop}
use lib.Seq.{get_or-take, get_or-drop}
use borrow.Rule.Slice.PartMut.{put_mid}
use Rattle.std.proofs.lemmas.Slice.{take-put_mid_below, drop-put_mid, between-put_mid}

module _ (a k : ℕ) (xs ys : List ℕ) (h : a + k ≤ length xs) (l : length ys ≡ k) where
  pub overwritten_length : length (put_mid a k xs ys) ≡ length xs
  overwritten_length = simp (length-append, length-take, length-drop) (omega (arith, l))

  pub overwritten_below : (m : ℕ) → m < a → get_or (put_mid a k xs ys) m 0 ≡ get_or xs m 0
  overwritten_below m b =
      sym (get_or-take a (put_mid a k xs ys) m 0 b) ∙ ap (λ r. get_or r m 0) (take-put_mid_below a k xs ys a (omega arith) (omega arith))
      ∙ get_or-take a xs m 0 b

  pub overwritten_above : (m : ℕ) → a + k ≤ m → get_or (put_mid a k xs ys) m 0 ≡ get_or xs m 0
  overwritten_above m b =
      let e : m ≡ a + k + (m - (a + k)) = omega arith in
      rw e (sym (get_or-drop (a + k) (put_mid a k xs ys) (m - (a + k)) 0)
      ∙ ap (λ r. get_or r (m - (a + k)) 0) (drop-put_mid a k xs ys (a + k) (omega arith) (omega arith) l)
      ∙ get_or-drop (a + k) xs (m - (a + k)) 0)

  pub overwritten_itself : take k (drop a (put_mid a k xs ys)) ≡ ys
  overwritten_itself =
      let e : a + k - a ≡ k = omega arith in
      ap (λ n. take n (drop a (put_mid a k xs ys))) (sym e) ∙ between-put_mid a k xs ys (a + k) (omega arith) (l ∙ sym e)
