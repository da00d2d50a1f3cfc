-- A test of every element, and of neighbours, taken one element at a time: what a loop over an array keeps, and what it has found
-- where it stops. For the loops of this crate.
use mathlib.Core.Path.{◌≡◌, refl, sym, ap, ap₂, ◌∙◌}
use mathlib.Core.Bool.{Bool, true, false, ◌&&◌, and-false}
use mathlib.Core.List.{List, [], ◌∷◌}
use Prim.Native.Nat.{ℕ, suc, ◌+◌, ◌-◌, ◌≤◌, ◌<◌, Ordering}
use native.Mathlib.Omega.{arith}
use lib.ListN.{length, take, drop, get_or, length-drop}
use lib.Seq.{drop-cons, get_or-take}
use Rattle.std.specs.List.{list_all}
use Rattle.laws.specs.Lists.{all}
use Rattle.laws.specs.Order.{is_less, ascending}
use Rattle.laws.proofs.Lists.{taken_cons, taken_none}

-- a test of every element, in the words of the library and in ours
pub all_told : {A : Type 0} (f : A → Bool) (xs : List A) → list_all f xs ≡ all f xs
all_told f [] = refl
all_told f (x ∷ xs) = ap (f x &&◌) (all_told f xs)

-- two tests joined by `&&`: the first is true and the second is what they give, or the first is false
pub both_second : {u v r a b : Bool} → u ≡ a → u ≡ true → v ≡ r → r ≡ b → v ≡ (a && b)
both_second {b = b} p q e f = e ∙ f ∙ ap (◌&& b) (sym q ∙ p)

pub both_first : {u v a : Bool} (b : Bool) → u ≡ a → u ≡ false → v ≡ u → v ≡ (a && b)
both_first b p q e = e ∙ q ∙ ap (◌&& b) (sym q ∙ p)

-- the first n elements, from the element i on
abbrev pub ahead : {A : Type 0} → ℕ → ℕ → List A → List A
ahead i n xs = drop i (take n xs)

-- a loop that tests each of the first n elements
module _ {A : Type 0} (f : A → Bool) (xs : List A) (n : ℕ) where
  -- the elements ahead tell what all tell
  abbrev pub Told : ℕ → Type 0
  Told i = all f (ahead i n xs) ≡ all f (take n xs)

  module _ (i : ℕ) (d : A) (h : i < n) (k : n ≤ length xs) (t : Told i) {r : Bool} (e : r ≡ f (get_or xs i d)) where
    told_next : (r && all f (ahead (i + 1) n xs)) ≡ all f (take n xs)
    told_next = rw e (sym (ap (all f) (taken_cons xs n i d h k)) ∙ t)

    pub told_more : r ≡ true → Told (i + 1)
    told_more p = ap (λ b. b && all f (ahead (i + 1) n xs)) (sym p) ∙ told_next

    pub told_stop : r ≡ false → false ≡ all f (take n xs)
    told_stop p = ap (λ b. b && all f (ahead (i + 1) n xs)) (sym p) ∙ told_next

  pub told_end : (i : ℕ) → n ≤ i → Told i → true ≡ all f (take n xs)
  told_end i h t = sym (ap (all f) (taken_none xs n i h)) ∙ t

-- a loop that tests the first n elements of two lists side by side
module _ {A B : Type 0} (f : A → Bool) (g : B → Bool) (xs : List A) (ys : List B) (n : ℕ) where
  -- what the elements ahead tell
  abbrev pub pairs : ℕ → Bool
  pairs i = all f (ahead i n xs) && all g (ahead i n ys)

  module _ (i : ℕ) (x : A) (y : B) (h : i < n) (j : n ≤ length xs) (k : n ≤ length ys) {whole : Bool} (t : pairs i ≡ whole) where
    pairs_next : (f (get_or xs i x) && all f (ahead (i + 1) n xs) && (g (get_or ys i y) && all g (ahead (i + 1) n ys))) ≡ whole
    pairs_next = sym (ap₂ (λ a b. all f a && all g b) (taken_cons xs n i x h j) (taken_cons ys n i y h k)) ∙ t

    pub pairs_more : f (get_or xs i x) ≡ true → g (get_or ys i y) ≡ true → pairs (i + 1) ≡ whole
    pairs_more p q = ap₂ (λ a b. a && all f (ahead (i + 1) n xs) && (b && all g (ahead (i + 1) n ys))) (sym p) (sym q) ∙ pairs_next

    pub pairs_first : f (get_or xs i x) ≡ false → false ≡ whole
    pairs_first p =
        ap (λ a. a && all f (ahead (i + 1) n xs) && (g (get_or ys i y) && all g (ahead (i + 1) n ys))) (sym p) ∙ pairs_next

    pub pairs_second : g (get_or ys i y) ≡ false → false ≡ whole
    pairs_second q =
        let a = f (get_or xs i x) && all f (ahead (i + 1) n xs) in
        sym (and-false a) ∙ ap (λ b. a && (b && all g (ahead (i + 1) n ys))) (sym q) ∙ pairs_next

  pub pairs_end : (i : ℕ) → n ≤ i → {whole : Bool} → pairs i ≡ whole → true ≡ whole
  pairs_end i h t = sym (ap₂ (λ a b. all f a && all g b) (taken_none xs n i h) (taken_none ys n i h)) ∙ t

-- a loop that compares each element with the one before it
module _ {A : Type 0} (cmp : A → A → Ordering) (l : List A) where
  -- the elements from the one before i on tell what all tell
  abbrev pub Rises : ℕ → Type 0
  Rises i = ascending cmp (drop (i - 1) l) ≡ ascending cmp l

  module _ (i : ℕ) (d : A) (g : 1 ≤ i) (h : i < length l) (t : Rises i) {r : Bool} (e : r ≡ is_less (cmp (get_or l (i - 1) d) (get_or l i d))) where
    rises_next : (r && ascending cmp (drop (i + 1 - 1) l)) ≡ ascending cmp l
    rises_next =
        let a : suc (i - 1) ≡ i = omega arith in
        let b : i + 1 - 1 ≡ i = omega arith in
        let x = get_or l (i - 1) d in
        rw e
        (rw (b, drop-cons l i d h)
        (sym (ap (ascending cmp) (drop-cons l (i - 1) d (omega arith) ∙ ap (x ∷◌) (ap (λ k. drop k l) a ∙ drop-cons l i d h))) ∙ t))

    pub rises_more : r ≡ true → Rises (i + 1)
    rises_more p = ap (λ b. b && ascending cmp (drop (i + 1 - 1) l)) (sym p) ∙ rises_next

    pub rises_stop : r ≡ false → false ≡ ascending cmp l
    rises_stop p = ap (λ b. b && ascending cmp (drop (i + 1 - 1) l)) (sym p) ∙ rises_next

  ascending_short : (m : List A) → length m ≤ 1 → ascending cmp m ≡ true
  ascending_short [] h = refl
  ascending_short (x ∷ []) h = refl
  ascending_short (x ∷ y ∷ m) h = absurd (omega arith)

  pub rises_end : (i : ℕ) → 1 ≤ i → length l ≤ i → Rises i → true ≡ ascending cmp l
  rises_end i g h t = sym (ascending_short (drop (i - 1) l) (omega (arith, length-drop (i - 1) l))) ∙ t

-- neighbours among the first n elements
pub among : {A : Type 0} (cmp : A → A → Ordering) (n : ℕ) (xs : List A) (i : ℕ) (d : A) → 1 ≤ i → i < n → {r : Bool}
    → r ≡ is_less (cmp (get_or xs (i - 1) d) (get_or xs i d)) → r ≡ is_less (cmp (get_or (take n xs) (i - 1) d) (get_or (take n xs) i d))
among cmp n xs i d g h e = rw (get_or-take n xs (i - 1) d (omega arith), get_or-take n xs i d h) e
