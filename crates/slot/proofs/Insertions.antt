-- Searches and comparisons of lists from an index on, and an insertion by the number of elements before the value: for the
-- loops of this crate.
use mathlib.Core.Path.{◌≡◌, refl, sym, ap, ◌∙◌}
use mathlib.Core.Bool.{Bool, true, false, cond}
use mathlib.Core.List.{List, [], ◌∷◌, ◌++◌}
use Prim.Native.Nat.{Ordering}
use Prim.Native.Nat.{ℕ, zero, suc, ◌+◌, ◌≤◌, ◌<◌, min, compare}
use native.Mathlib.Nat.{not-suc-le-zero}
use mathlib.Core.Logic.{dite}
use native.Mathlib.Decide.{dec_lt}
use native.Mathlib.Omega.{arith}
use lib.Dec.{leb, ltb}
use lib.ListN.{length, take, drop, get_or}
use borrow.Author.Tests.{lt-ltb, le-ltb, lt-leb, le-leb, ltb-true, ltb-false}
use Rattle.std.specs.List.{position_or_len}
use Rattle.std.specs.Prelude.{unwrap_or, Option, Some, None}
use Rattle.laws.specs.Order.{and_then, lex}
use Rattle.laws.specs.Sets.{put, insert}
use Rattle.laws.proofs.Lists.{taken_cons, taken_none}
use Rattle.laws.proofs.Order.{compare_order, lt_compare, gt_compare}
use Rattle.slot.specs.Slots.{smaller}

-- taken again, as many as there are
pub retaken : (n : ℕ) (l : List ℕ) → take n l ≡ take (length (take n l)) l
retaken zero l = refl
retaken (suc n) [] = refl
retaken (suc n) (x ∷ l) = ap (◌∷◌ x) (retaken n l)

pub eq_compare : (m n : ℕ) → m ≡ n → compare m n ≡ Ordering.eq
eq_compare m n h = rw h (compare_order.self n)

-- the first n numbers from index i on
abbrev pub rest : List ℕ → ℕ → ℕ → List ℕ
rest xs n i = drop i (take n xs)

module _ (xs : List ℕ) (n i : ℕ) (h : i < n) (f : n ≤ length xs) where
  rest_first : rest xs n i ≡ get_or xs i 0 ∷ rest xs n (i + 1)
  rest_first = taken_cons xs n i 0 h f

  -- the numbers before x at the beginning
  pub smaller_more : (x : ℕ) → get_or xs i 0 < x → smaller x (rest xs n i) ≡ suc (smaller x (rest xs n (i + 1)))
  smaller_more x k = rw (rest_first, lt-ltb (get_or xs i 0) x k)

  pub smaller_none : (x : ℕ) → x ≤ get_or xs i 0 → smaller x (rest xs n i) ≡ 0
  smaller_none x k = rw (rest_first, le-ltb (get_or xs i 0) x k)

-- two lists compared from index i on, both of which go on
module _ (xs ys : List ℕ) (m n i : ℕ) (h : i < m) (f : m ≤ length xs) (k : i < n) (g : n ≤ length ys) where
  pub lex_first : lex compare (rest xs m i) (rest ys n i)
      ≡ and_then (compare (get_or xs i 0) (get_or ys i 0)) (lex compare (rest xs m (i + 1)) (rest ys n (i + 1)))
  lex_first = rw (rest_first xs m i h f, rest_first ys n i k g)

-- one of which is over
module _ (xs ys : List ℕ) (m n i : ℕ) where
  lex_shorter : m ≤ i → i < n → n ≤ length ys → lex compare (rest xs m i) (rest ys n i) ≡ Ordering.lt
  lex_shorter h k g = rw (taken_none xs m i h, rest_first ys n i k g)

  lex_longer : i < m → m ≤ length xs → n ≤ i → lex compare (rest xs m i) (rest ys n i) ≡ Ordering.gt
  lex_longer h f k = rw (rest_first xs m i h f, taken_none ys n i k)

  lex_over : m ≤ i → n ≤ i → lex compare (rest xs m i) (rest ys n i) ≡ Ordering.eq
  lex_over h k = rw (taken_none xs m i h, taken_none ys n i k)

  -- the shorter one is first
  pub lex_sizes : i ≡ min m n → m ≤ length xs → n ≤ length ys → lex compare (rest xs m i) (rest ys n i) ≡ compare m n
  lex_sizes e f g =
      dite (dec_lt m n)
      (λ h. lex_shorter (omega arith) (omega arith) g ∙ sym (lt_compare m n h))
      λ h. dite (dec_lt n m)
      (λ k. lex_longer (omega arith) f (omega arith) ∙ sym (gt_compare m n k))
      λ k. lex_over (omega arith) (omega arith) ∙ sym (eq_compare m n (omega arith))

pub smaller_few : (x : ℕ) (l : List ℕ) → smaller x l ≤ length l
smaller_few x [] = omega arith
smaller_few x (y ∷ l) = go (ltb y x) (smaller_few x l)
  where
    go : (b : Bool) → smaller x l ≤ length l → cond b (suc (smaller x l)) 0 ≤ suc (length l)
    go true ih = omega arith
    go false ih = omega arith

-- an element that stands in its place is not inserted
pub insert_found : (x : ℕ) (l : List ℕ) → smaller x l < length l → get_or l (smaller x l) 0 ≡ x → insert compare x l ≡ l
insert_found x [] = λ h e. absurd (not-suc-le-zero h)
insert_found x (y ∷ l) = go (ltb y x) refl (insert_found x l)
  where
    go : (b : Bool) → ltb y x ≡ b → (smaller x l < length l → get_or l (smaller x l) 0 ≡ x → insert compare x l ≡ l)
        → let k = cond b (suc (smaller x l)) 0 in k < suc (length l) → get_or (y ∷ l) k 0 ≡ x
        → put (compare x y) x y l (insert compare x l) ≡ y ∷ l
    go true t ih h e = rw (gt_compare x y (ltb-true y x t)) (ap (◌∷◌ y) (ih (omega arith) e))
    go false t ih h e = rw (eq_compare x y (sym e))

-- any other is inserted there
pub insert_gap : (x : ℕ) (l : List ℕ) → (smaller x l < length l → get_or l (smaller x l) 0 ≡ x → ⊥)
    → insert compare x l ≡ take (smaller x l) l ++ x ∷ drop (smaller x l) l
insert_gap x [] = λ n. refl
insert_gap x (y ∷ l) = go (ltb y x) refl (insert_gap x l)
  where
    go : (b : Bool) → ltb y x ≡ b
        → ((smaller x l < length l → get_or l (smaller x l) 0 ≡ x → ⊥) → insert compare x l ≡ take (smaller x l) l ++ x ∷ drop (smaller x l) l)
        → let k = cond b (suc (smaller x l)) 0 in (k < suc (length l) → get_or (y ∷ l) k 0 ≡ x → ⊥)
        → put (compare x y) x y l (insert compare x l) ≡ take k (y ∷ l) ++ x ∷ drop k (y ∷ l)
    go true t ih n = rw (gt_compare x y (ltb-true y x t)) (ap (◌∷◌ y) (ih λ h e. n (omega arith) e))
    go false t ih n = let d : y ≡ x → ⊥ = n (omega arith) in rw (lt_compare x y (omega (arith, ltb-false y x t)))

-- the numbers before x end at the first that is not, if there is one
first_place : (x : ℕ) (l : List ℕ) → position_or_len (λ y. leb x y) l ≡ smaller x l
first_place x [] = refl
first_place x (y ∷ l) = go (ltb y x) refl (first_place x l)
  where
    go : (b : Bool) → ltb y x ≡ b → position_or_len (λ y. leb x y) l ≡ smaller x l
        → position_or_len (λ y. leb x y) (y ∷ l) ≡ cond b (suc (smaller x l)) 0
    go true t ih = let h = lt-leb x y (ltb-true y x t) in rw h (omega arith)
    go false t ih = rw (le-leb x y (ltb-false y x t))

pub first_from : (x n : ℕ) (l : List ℕ) (o : Option ℕ) → length l ≡ n → let p = position_or_len (λ y. leb x y) l in
    o ≡ cond (ltb p (length l)) (Some p) None → unwrap_or o n ≡ smaller x l
first_from x n l o h e = rw (e, first_place x l) (go (ltb (smaller x l) (length l)) refl)
  where
    go : (b : Bool) → ltb (smaller x l) (length l) ≡ b → unwrap_or (cond b (Some (smaller x l)) None) n ≡ smaller x l
    go true t = refl
    go false t = let f = ltb-false (smaller x l) (length l) t in omega (arith, smaller_few x l)
