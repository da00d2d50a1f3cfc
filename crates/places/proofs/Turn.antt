-- A turn of the search for the place of x among the first n elements of l, from the end: x is compared with y, the element right before
-- i. By the answer the search goes on, or x stands there, or it goes right behind.
use Rattle.std.proofs.Common.{◌≡◌, true, ℕ, List, ◌∷◌, ◌++◌, ◌+◌, ◌-◌, ◌≤◌, ◌<◌, length, take, drop, get_or, sym, ap, ◌∙◌, arith}
use Prim.Native.Nat.{Ordering}
use Rattle.laws.specs.Order.{IsOrder, ascending}
use Rattle.laws.specs.Sets.{insert}
use Rattle.laws.proofs.Turns.{Passed, Compared, passed_more, passed_found, passed_behind}
use Rattle.slot.specs.declared.Order.{Order}
use Rattle.slot.specs.Slots.{rank}
use Rattle.slot.proofs.Slots.{rank_equal}

module _ {A : Type 0} {cmp : A → A → Ordering} (o : IsOrder cmp) (n : ℕ) (l : List A) (x : A) (i : ℕ) (y : A) (fits : n ≤ length l)
    (rises : ascending cmp (take n l) ≡ true) (p : Passed cmp n l x i) (some : 0 < i) (here : (d : A) → y ≡ get_or l (i - 1) d) where
  compared : Compared cmp n l x i (i - 1)
  compared = record { order = o; room = fits; rises = rises; next = omega arith; passed = p }

  by : (r : Ordering) → rank r ≡ rank (cmp x y) → cmp x (get_or l (i - 1) y) ≡ r
  by r e = ap (cmp x) (sym (here y)) ∙ sym (rank_equal r (cmp x y) e)

  pub is_passed : Order.Before ≡ rank (cmp x y) → Passed cmp n l x (i - 1)
  is_passed e = passed_more compared y (by Ordering.lt e)

  pub is_found : Order.Same ≡ rank (cmp x y) → (i - 1 < n) × ((d : A) → get_or l (i - 1) d ≡ x) × (insert cmp x (take n l) ≡ take n l)
  is_found e =
      let same : cmp x y ≡ Ordering.eq = sym (rank_equal Ordering.eq (cmp x y) e) in
      (omega (arith, p.upto), λ d. sym (here d) ∙ sym (o.equal x y same), passed_found compared y (by Ordering.eq e))

  pub is_behind : Order.After ≡ rank (cmp x y)
      → (i - 1 + 1 ≤ n) × (insert cmp x (take n l) ≡ take (i - 1 + 1) (take n l) ++ x ∷ drop (i - 1 + 1) (take n l))
  is_behind e =
      let next : i - 1 + 1 ≡ i = omega arith in
      rw next (p.upto, passed_behind compared y (by Ordering.gt e))
