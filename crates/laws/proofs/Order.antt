-- The comparison of numbers is an order; so is the lexicographic one, and one that goes by two keys.
use mathlib.Core.Path.{◌≡◌, refl, ap₂, ◌∙◌}
use mathlib.Core.List.{List, [], ◌∷◌, ◌++◌}
use Prim.Native.Nat.{ℕ, zero, suc, ◌<◌, compare, Ordering}
use Prim.Native.Nat.compare
use native.Mathlib.Omega.{arith}
use lib.Dec.{eqb→eq, nleb→lt}
use Rattle.laws.specs.Order.{IsOrder, flip, and_then, lex}

compare_self : (n : ℕ) → compare n n ≡ Ordering.eq
compare_self zero = compare.zero-zero
compare_self (suc n) = compare.suc-suc n n ∙ compare_self n

compare_equal : (m n : ℕ) → compare m n ≡ Ordering.eq → m ≡ n
compare_equal m n e = eqb→eq m n (rw e tt)

compare_turned : (m n : ℕ) → compare n m ≡ flip (compare m n)
compare_turned zero zero = rw compare.zero-zero
compare_turned zero (suc n) = rw (compare.zero-suc, compare.suc-zero)
compare_turned (suc m) zero = rw (compare.zero-suc, compare.suc-zero)
compare_turned (suc m) (suc n) = rw (compare.suc-suc m n, compare.suc-suc n m) (compare_turned m n)

pub compare_lt : (m n : ℕ) → compare m n ≡ Ordering.lt → m < n
compare_lt m n e = nleb→lt n m (rw (compare_turned m n, e) tt)

pub lt_compare : (m n : ℕ) → m < n → compare m n ≡ Ordering.lt
lt_compare m n h = go (compare m n) refl
  where
    go : (c : Ordering) → compare m n ≡ c → compare m n ≡ Ordering.lt
    go Ordering.lt e = e
    go Ordering.eq e = absurd (omega (arith, compare_equal m n e))
    go Ordering.gt e = absurd (omega (arith, compare_lt n m (rw (compare_turned m n, e))))

pub gt_compare : (m n : ℕ) → n < m → compare m n ≡ Ordering.gt
gt_compare m n h = rw (compare_turned n m, lt_compare n m h)

pub compare_order : IsOrder compare
compare_order = record {
  self = compare_self;
  equal = compare_equal;
  turned = compare_turned;
  through = λ a b c d e. lt_compare a c (omega (arith, compare_lt a b d, compare_lt b c e));
}

-- one comparison after another: no difference, the flipped answer, "before"
then_equal : (p q : Ordering) → and_then p q ≡ Ordering.eq → (p ≡ Ordering.eq) × (q ≡ Ordering.eq)
then_equal Ordering.lt q h = (h, cc)
then_equal Ordering.eq q h = (refl, h)
then_equal Ordering.gt q h = (h, cc)

then_flip : (p q : Ordering) → and_then (flip p) (flip q) ≡ flip (and_then p q)
then_flip Ordering.lt q = refl
then_flip Ordering.eq q = refl
then_flip Ordering.gt q = refl

then_through : {A : Type 0} {cmp : A → A → Ordering} → IsOrder cmp → (x y z : A) (q r s : Ordering)
    → (q ≡ Ordering.lt → r ≡ Ordering.lt → s ≡ Ordering.lt)
    → and_then (cmp x y) q ≡ Ordering.lt → and_then (cmp y z) r ≡ Ordering.lt → and_then (cmp x z) s ≡ Ordering.lt
then_through {cmp} o x y z q r s h = go (cmp x y) (cmp y z) refl refl
  where
    go : (u v : Ordering) → cmp x y ≡ u → cmp y z ≡ v → and_then u q ≡ Ordering.lt → and_then v r ≡ Ordering.lt → and_then (cmp x z) s ≡ Ordering.lt
    go Ordering.lt Ordering.lt c d e f = rw (o.through x y z c d)
    go Ordering.lt Ordering.eq c d e f = rw (← o.equal y z d, c)
    go Ordering.lt Ordering.gt c d e f = cc
    go Ordering.eq Ordering.lt c d e f = rw (o.equal x y c, d)
    go Ordering.eq Ordering.eq c d e f = rw (o.equal x y c, d) (h e f)
    go Ordering.eq Ordering.gt c d e f = cc
    go Ordering.gt v c d e f = cc

module _ {A : Type 0} {cmp : A → A → Ordering} (o : IsOrder cmp) where
  lex_self : (k : List A) → lex cmp k k ≡ Ordering.eq
  lex_self [] = refl
  lex_self (x ∷ k) = ap₂ and_then (o.self x) (lex_self k)

  lex_equal : (k l : List A) → lex cmp k l ≡ Ordering.eq → k ≡ l
  lex_equal [] [] h = refl
  lex_equal [] (y ∷ l) h = cc
  lex_equal (x ∷ k) [] h = cc
  lex_equal (x ∷ k) (y ∷ l) h = let e = then_equal (cmp x y) (lex cmp k l) h in ap₂ ◌∷◌ (o.equal x y e.0) (lex_equal k l e.1)

  lex_turned : (k l : List A) → lex cmp l k ≡ flip (lex cmp k l)
  lex_turned [] [] = refl
  lex_turned [] (y ∷ l) = refl
  lex_turned (x ∷ k) [] = refl
  lex_turned (x ∷ k) (y ∷ l) = ap₂ and_then (o.turned x y) (lex_turned k l) ∙ then_flip (cmp x y) (lex cmp k l)

  lex_through : (k l m : List A) → lex cmp k l ≡ Ordering.lt → lex cmp l m ≡ Ordering.lt → lex cmp k m ≡ Ordering.lt
  lex_through [] [] m d e = e
  lex_through [] (y ∷ l) [] d e = cc
  lex_through [] (y ∷ l) (z ∷ m) d e = refl
  lex_through (x ∷ k) [] m d e = cc
  lex_through (x ∷ k) (y ∷ l) [] d e = cc
  lex_through (x ∷ k) (y ∷ l) (z ∷ m) d e = then_through o x y z (lex cmp k l) (lex cmp l m) (lex cmp k m) (lex_through k l m) d e

  -- "by the first differing value", whatever stands behind it and however much is the same before it; "a list before any that it begins"
  pub first_differing : (p x y : List A) (a b : A) → cmp a b ≡ Ordering.lt → lex cmp (p ++ (a ∷ x)) (p ++ (b ∷ y)) ≡ Ordering.lt
  first_differing [] x y a b h = rw h
  first_differing (c ∷ p) x y a b h = rw (o.self c) (first_differing p x y a b h)

  pub begun_before : (p y : List A) (b : A) → lex cmp p (p ++ (b ∷ y)) ≡ Ordering.lt
  begun_before [] y b = refl
  begun_before (c ∷ p) y b = rw (o.self c) (begun_before p y b)

pub lex_order : {A : Type 0} {cmp : A → A → Ordering} → IsOrder cmp → IsOrder (lex cmp)
lex_order o = record { self = lex_self o; equal = lex_equal o; turned = lex_turned o; through = lex_through o }

-- an order of keys orders what the keys tell apart
pub key_order : {A B : Type 0} {cmp : B → B → Ordering} (f : A → B) → IsOrder cmp → ((a b : A) → f a ≡ f b → a ≡ b) → IsOrder (λ (a b : A). cmp (f a) (f b))
key_order f o inj = record {
  self = λ a. o.self (f a);
  equal = λ a b h. inj a b (o.equal (f a) (f b) h);
  turned = λ a b. o.turned (f a) (f b);
  through = λ a b c. o.through (f a) (f b) (f c);
}

-- by one key, and then by another
pub keys_order : {A B C : Type 0} {c : B → B → Ordering} {d : C → C → Ordering} (f : A → B) (g : A → C) → IsOrder c → IsOrder d
    → ((a b : A) → f a ≡ f b → g a ≡ g b → a ≡ b) → IsOrder (λ (a b : A). and_then (c (f a) (f b)) (d (g a) (g b)))
keys_order {c} {d} f g o p inj = record {
  self = λ a. ap₂ and_then (o.self (f a)) (p.self (g a));
  equal = λ a b h. let e = then_equal (c (f a) (f b)) (d (g a) (g b)) h in inj a b (o.equal (f a) (f b) e.0) (p.equal (g a) (g b) e.1);
  turned = λ a b. ap₂ and_then (o.turned (f a) (f b)) (p.turned (g a) (g b)) ∙ then_flip (c (f a) (f b)) (d (g a) (g b));
  through = λ x y z.
      then_through o (f x) (f y) (f z) (d (g x) (g y)) (d (g y) (g z)) (d (g x) (g z)) (p.through (g x) (g y) (g z));
}
