-- Laws of tests over lists, of the elements that pass, and of lists of neighbouring numbers.
use mathlib.Core.Path.{◌≡◌, refl, sym, ap, ap₂, subst, ◌∙◌}
use mathlib.Core.Bool.{Bool, true, false, cond, not, ◌&&◌, ◌||◌, true≢false, false≢true, or_assoc, and_assoc, or-true, and-false}
use mathlib.Core.List.{List, [], ◌∷◌, ◌++◌, map, reverse, append-nil, map-append, reverse-cons, reverse-append}
use mathlib.Core.List.Memᴰ
use mathlib.Core.List.{Memᴰ}
use mathlib.Core.Logic.{◌↔◌, ◌⊎◌, inl, inr, ⊎_elim, dite}
use Prim.Native.Nat.{ℕ, zero, suc, ◌+◌, ◌*◌, ◌-◌, ◌≤◌, ◌<◌, suc-le-suc}
use native.Mathlib.Nat.{not-suc-le-zero, le_of_suc-le-suc, eq-or-lt_of_le}
use native.Mathlib.Decide.{ℕ_discrete}
use native.Mathlib.Numerals.{add-one}
use native.Mathlib.Omega.{arith}
use lib.ListN.{length, take, drop, get_or, length-append, length-reverse, length-take, length-drop, take-append-drop, drop_of_length-le}
use lib.ListN.{get_or-append}
use lib.Dec.{eqb}
use lib.Seq.{take_at, drop-cons, get_or-take, get_or-append_seam, length-take-le}
use borrow.Author.Tests.{eqb-true, eq-eqb}
use Rattle.laws.specs.Lists.{any, all, keep, gather, numbers}

-- two tests are equal where each passes if the other does
pub same_test : (a b : Bool) → (a ≡ true → b ≡ true) → (b ≡ true → a ≡ true) → a ≡ b
same_test true true f g = refl
same_test true false f g = sym (f refl)
same_test false true f g = g refl
same_test false false f g = refl

pub and_true_split : (a b : Bool) → (a && b) ≡ true → (a ≡ true) × (b ≡ true)
and_true_split true b h = (refl, h)
and_true_split false b h = absurd (false≢true h)

pub and_false_split : (a b : Bool) → (a && b) ≡ false → (a ≡ false) ⊎ (b ≡ false)
and_false_split true b h = inr h
and_false_split false b h = inl refl

pub or_true_split : (a b : Bool) → (a || b) ≡ true → (a ≡ true) ⊎ (b ≡ true)
or_true_split true b h = inl refl
or_true_split false b h = inr h

pub or_false_split : (a b : Bool) → (a || b) ≡ false → (a ≡ false) × (b ≡ false)
or_false_split true b h = absurd (true≢false h)
or_false_split false b h = (refl, h)

-- what holds of both ways of a test
pub either : {A : Type 0} (P : A → Type 0) (b : Bool) {x y : A} → (b ≡ true → P x) → (b ≡ false → P y) → P (cond b x y)
either P true f g = f refl
either P false f g = g refl

or_swap : (a b c d : Bool) → (a || b || (c || d)) ≡ (a || c || (b || d))
or_swap true b c d = refl
or_swap false true c d = sym (or-true c)
or_swap false false c d = refl

pub and_swap : (a b c d : Bool) → (a && b && (c && d)) ≡ (a && c && (b && d))
and_swap true true c d = refl
and_swap true false c d = sym (and-false c)
and_swap false b c d = refl

pub and_front : (a b c : Bool) → (a && (b && c)) ≡ (b && (a && c))
and_front true b c = refl
and_front false b c = sym (and-false b)

not_or : (a b : Bool) → not (a || b) ≡ (not a && not b)
not_or true b = refl
not_or false b = refl

pub eqb_swap : (a b : ℕ) → eqb a b ≡ eqb b a
eqb_swap a b = same_test (eqb a b) (eqb b a) (λ h. eq-eqb b a (sym (eqb-true a b h))) (λ h. eq-eqb a b (sym (eqb-true b a h)))

module _ {A : Type 0} where
  pub any_append : (f : A → Bool) (l m : List A) → any f (l ++ m) ≡ (any f l || any f m)
  any_append f [] m = refl
  any_append f (x ∷ l) m = ap (λ b. f x || b) (any_append f l m) ∙ sym (or_assoc (f x) (any f l) (any f m))

  pub all_append : (f : A → Bool) (l m : List A) → all f (l ++ m) ≡ (all f l && all f m)
  all_append f [] m = refl
  all_append f (x ∷ l) m = ap (λ b. f x && b) (all_append f l m) ∙ sym (and_assoc (f x) (all f l) (all f m))

  pub any_map : {B : Type 0} (f : B → Bool) (g : A → B) (l : List A) → any f (map g l) ≡ any (λ x. f (g x)) l
  any_map f g [] = refl
  any_map f g (x ∷ l) = ap (λ b. f (g x) || b) (any_map f g l)

  pub all_map : {B : Type 0} (f : B → Bool) (g : A → B) (l : List A) → all f (map g l) ≡ all (λ x. f (g x)) l
  all_map f g [] = refl
  all_map f g (x ∷ l) = ap (λ b. f (g x) && b) (all_map f g l)

  any_cond : (f : A → Bool) (b : Bool) (x : A) (l : List A) → any f (cond b (x ∷ l) l) ≡ (b && f x || any f l)
  any_cond f true x l = refl
  any_cond f false x l = refl

  pub any_keep : (f g : A → Bool) (l : List A) → any f (keep g l) ≡ any (λ x. g x && f x) l
  any_keep f g [] = refl
  any_keep f g (x ∷ l) = any_cond f (g x) x (keep g l) ∙ ap (λ b. g x && f x || b) (any_keep f g l)

module _ {A : Type 0} where
  pub any_gather : {B : Type 0} (f : B → Bool) (g : A → List B) (l : List A) → any f (gather g l) ≡ any (λ x. any f (g x)) l
  any_gather f g [] = refl
  any_gather f g (x ∷ l) = any_append f (g x) (gather g l) ∙ ap (λ b. any f (g x) || b) (any_gather f g l)

  -- tests that agree on the elements of a list
  pub any_agree : (f g : A → Bool) (l : List A) → ((x : A) → Memᴰ x l → f x ≡ g x) → any f l ≡ any g l
  any_agree f g [] h = refl
  any_agree f g (x ∷ l) h = ap₂ ◌||◌ (h x (Memᴰ.head refl)) (any_agree f g l (λ y m. h y (Memᴰ.tail m)))

  pub all_agree : (f g : A → Bool) (l : List A) → ((x : A) → Memᴰ x l → f x ≡ g x) → all f l ≡ all g l
  all_agree f g [] h = refl
  all_agree f g (x ∷ l) h = ap₂ ◌&&◌ (h x (Memᴰ.head refl)) (all_agree f g l (λ y m. h y (Memᴰ.tail m)))

  pub keep_agree : (f g : A → Bool) (l : List A) → ((x : A) → Memᴰ x l → f x ≡ g x) → keep f l ≡ keep g l
  keep_agree f g [] h = refl
  keep_agree f g (x ∷ l) h = ap₂ (λ b r. cond b (x ∷ r) r) (h x (Memᴰ.head refl)) (keep_agree f g l (λ y m. h y (Memᴰ.tail m)))

  pub any_false : (l : List A) → any (λ x. false) l ≡ false
  any_false [] = refl
  any_false (x ∷ l) = any_false l

  pub any_and : (b : Bool) (f : A → Bool) (l : List A) → any (λ x. b && f x) l ≡ (b && any f l)
  any_and true f l = refl
  any_and false f l = any_false l

  pub any_or : (f g : A → Bool) (l : List A) → any (λ x. f x || g x) l ≡ (any f l || any g l)
  any_or f g [] = refl
  any_or f g (x ∷ l) = ap (λ b. f x || g x || b) (any_or f g l) ∙ or_swap (f x) (g x) (any f l) (any g l)

module _ {A : Type 0} where
  pub any_swap : {B : Type 0} (f : A → B → Bool) (l : List A) (m : List B) → any (λ x. any (λ y. f x y) m) l ≡ any (λ y. any (λ x. f x y) l) m
  any_swap f [] m = sym (any_false m)
  any_swap f (x ∷ l) m = ap (λ b. any (f x) m || b) (any_swap f l m) ∙ sym (any_or (f x) (λ y. any (λ z. f z y) l) m)

  pub not_any : (f : A → Bool) (l : List A) → not (any f l) ≡ all (λ x. not (f x)) l
  not_any f [] = refl
  not_any f (x ∷ l) = not_or (f x) (any f l) ∙ ap (λ b. not (f x) && b) (not_any f l)

  -- tests and membership
  pub any_found : (f : A → Bool) (l : List A) → any f l ≡ true → (x : A) × Memᴰ x l × (f x ≡ true)
  any_found f [] h = absurd (false≢true h)
  any_found f (x ∷ l) h =
      ⊎_elim (λ e. (x, Memᴰ.head refl, e)) (λ e. let r = any_found f l e in (r.0, Memᴰ.tail r.1, r.2)) (or_true_split (f x) (any f l) h)

  pub all_found : (f : A → Bool) (l : List A) → all f l ≡ false → (x : A) × Memᴰ x l × (f x ≡ false)
  all_found f [] h = absurd (true≢false h)
  all_found f (x ∷ l) h =
      ⊎_elim (λ e. (x, Memᴰ.head refl, e)) (λ e. let r = all_found f l e in (r.0, Memᴰ.tail r.1, r.2)) (and_false_split (f x) (all f l) h)

  pub any_of : (f : A → Bool) {x : A} {l : List A} → Memᴰ x l → f x ≡ true → any f l ≡ true
  any_of f {l = []} x6 h = elim x6 [ ]
  any_of f {l = y ∷ l} (Memᴰ.head e) h = ap (λ b. b || any f l) (sym (ap f e) ∙ h)
  any_of f {l = y ∷ l} (Memᴰ.tail m) h = ap (λ b. f y || b) (any_of f m h) ∙ or-true (f y)

  pub any_none : (f : A → Bool) {x : A} {l : List A} → any f l ≡ false → Memᴰ x l → f x ≡ false
  any_none f {x} {l} h m = go (f x) refl
    where
      go : (b : Bool) → f x ≡ b → f x ≡ false
      go true e = absurd (true≢false (sym (any_of f m e) ∙ h))
      go false e = e

  pub all_at : (f : A → Bool) {x : A} {l : List A} → all f l ≡ true → Memᴰ x l → f x ≡ true
  all_at f {l = []} h x6 = elim x6 [ ]
  all_at f {l = y ∷ l} h (Memᴰ.head e) = ap f e ∙ (and_true_split (f y) (all f l) h).0
  all_at f {l = y ∷ l} h (Memᴰ.tail m) = all_at f (and_true_split (f y) (all f l) h).1 m

  -- the element at an index, where the default passes too; the first elements; one element more
  pub all_get_d : (f : A → Bool) (l : List A) (i : ℕ) (d : A) → f d ≡ true → all f l ≡ true → f (get_or l i d) ≡ true
  all_get_d f [] i d h k = h
  all_get_d f (x ∷ l) zero d h k = (and_true_split (f x) (all f l) k).0
  all_get_d f (x ∷ l) (suc i) d h k = all_get_d f l i d h (and_true_split (f x) (all f l) k).1

  pub all_take : (f : A → Bool) (n : ℕ) (l : List A) → all f l ≡ true → all f (take n l) ≡ true
  all_take f n l h =
      let e = sym (all_append f (take n l) (drop n l)) ∙ ap (all f) (take-append-drop n l) ∙ h in
      (and_true_split (all f (take n l)) (all f (drop n l)) e).0

  pub all_more : (f : A → Bool) (l : List A) (x : A) → all f l ≡ true → f x ≡ true → all f (l ++ x ∷ []) ≡ true
  all_more f l x h k = rw (all_append, h, k)

  pub all_of : (f : A → Bool) (l : List A) → ((x : A) → Memᴰ x l → f x ≡ true) → all f l ≡ true
  all_of f [] h = refl
  all_of f (x ∷ l) h = ap₂ ◌&&◌ (h x (Memᴰ.head refl)) (all_of f l (λ y m. h y (Memᴰ.tail m)))

  -- every element passes where the one at each index does: what the logic knows of a lent slice
  pub all_indexed : (f : A → Bool) (d : A) (l : List A) → ((i : ℕ) → f (get_or l i d) ≡ true) → all f l ≡ true
  all_indexed f d [] h = refl
  all_indexed f d (x ∷ l) h = ap₂ ◌&&◌ (h 0) (all_indexed f d l (λ i. h (suc i)))

  pub mem_keep : (f : A → Bool) (x : A) (l : List A) → Memᴰ x (keep f l) ↔ (Memᴰ x l × (f x ≡ true))
  mem_keep f x [] = (λ m. absurd (Memᴰ.not-nil m), λ p. p.0)
  mem_keep f x (y ∷ l) = go (f y) refl (mem_keep f x l)
    where
      go : (b : Bool) → f y ≡ b → (Memᴰ x (keep f l) ↔ (Memᴰ x l × (f x ≡ true)))
          → Memᴰ x (cond b (y ∷ keep f l) (keep f l)) ↔ (Memᴰ x (y ∷ l) × (f x ≡ true))
      go true e ih = (
        λ m. ⊎_elim (λ p. (Memᴰ.head p, ap f p ∙ e)) (λ n. let r = ih.0 n in (Memᴰ.tail r.0, r.1)) (Memᴰ.cases_cons m),
        λ p. ⊎_elim Memᴰ.head (λ n. Memᴰ.tail (ih.1 (n, p.1))) (Memᴰ.cases_cons p.0),
      )
      go false e ih = (
        λ m. let r = ih.0 m in (Memᴰ.tail r.0, r.1),
        λ p. ⊎_elim (λ q. absurd (true≢false (sym p.1 ∙ ap f q ∙ e))) (λ n. ih.1 (n, p.1)) (Memᴰ.cases_cons p.0),
      )

  pub mem_map : {B : Type 0} (g : A → B) (y : B) (l : List A) → Memᴰ y (map g l) ↔ ((x : A) × Memᴰ x l × (y ≡ g x))
  mem_map g y [] = (λ m. absurd (Memᴰ.not-nil m), λ p. absurd (Memᴰ.not-nil p.1))
  mem_map g y (z ∷ l) = let ih = mem_map g y l in (
    λ m. ⊎_elim (λ e. (z, Memᴰ.head refl, e)) (λ n. let r = ih.0 n in (r.0, Memᴰ.tail r.1, r.2)) (Memᴰ.cases_cons m),
    λ p. ⊎_elim (λ e. Memᴰ.head (p.2 ∙ ap g e)) (λ n. Memᴰ.tail (ih.1 (p.0, n, p.2))) (Memᴰ.cases_cons p.1),
  )

  pub mem_gather : {B : Type 0} (g : A → List B) (y : B) (l : List A) → Memᴰ y (gather g l) ↔ ((x : A) × Memᴰ x l × Memᴰ y (g x))
  mem_gather g y [] = (λ m. absurd (Memᴰ.not-nil m), λ p. absurd (Memᴰ.not-nil p.1))
  mem_gather g y (z ∷ l) = let ih = mem_gather g y l in (
    λ m. ⊎_elim (λ n. (z, Memᴰ.head refl, n)) (λ n. let r = ih.0 n in (r.0, Memᴰ.tail r.1, r.2)) (Memᴰ.append_cases (g z) m),
    λ p. ⊎_elim (λ e. Memᴰ.append_left (gather g l) (subst (λ x. Memᴰ y (g x)) e p.2))
        (λ n. Memᴰ.append_right (g z) (ih.1 (p.0, n, p.2))) (Memᴰ.cases_cons p.1),
  )

  -- elements picked by a test and mapped
  pub mem_picked : {B : Type 0} (f : A → Bool) (g : A → B) (y : B) (l : List A)
      → Memᴰ y (map g (keep f l)) ↔ ((x : A) × Memᴰ x l × (f x ≡ true) × (y ≡ g x))
  mem_picked f g y l = (
    λ m. let (x, k, e) = (mem_map g y (keep f l)).0 m in let n = (mem_keep f x l).0 k in (x, n.0, n.1, e),
    λ p. (mem_map g y (keep f l)).1 (p.0, (mem_keep f p.0 l).1 (p.1, p.2), p.3),
  )

  -- maps that give the same list agree on its elements
  pub map_at : {B : Type 0} (f g : A → B) {x : A} {l : List A} → map f l ≡ map g l → Memᴰ x l → f x ≡ g x
  map_at f g h (Memᴰ.head e) = rw e (cc)
  map_at f g h (Memᴰ.tail m) = map_at f g (cc) m

  pub mem_get_or : (l : List A) (i : ℕ) (d : A) → i < length l → Memᴰ (get_or l i d) l
  mem_get_or [] i d h = absurd (not-suc-le-zero h)
  mem_get_or (x ∷ l) zero d h = Memᴰ.head refl
  mem_get_or (x ∷ l) (suc i) d h = Memᴰ.tail (mem_get_or l i d (le_of_suc-le-suc h))

  pub mem_take : (n : ℕ) {x : A} {l : List A} → Memᴰ x (take n l) → Memᴰ x l
  mem_take n {x} {l} m = subst (Memᴰ x) (take-append-drop n l) (Memᴰ.append_left (drop n l) m)

  -- where an element stands
  pub mem_index : (d : A) {x : A} {l : List A} → Memᴰ x l → (i : ℕ) × (i < length l) × (get_or l i d ≡ x)
  mem_index d (Memᴰ.head e) = (0, omega arith, sym e)
  mem_index d (Memᴰ.tail m) = let r = mem_index d m in (suc r.0, suc-le-suc r.1, r.2)

  -- the elements that pass
  cond_append : (b : Bool) (x : A) (l m : List A) → cond b (x ∷ l ++ m) (l ++ m) ≡ cond b (x ∷ l) l ++ m
  cond_append true x l m = refl
  cond_append false x l m = refl

  pub keep_append : (f : A → Bool) (l m : List A) → keep f (l ++ m) ≡ keep f l ++ keep f m
  keep_append f [] m = refl
  keep_append f (x ∷ l) m = ap (λ r. cond (f x) (x ∷ r) r) (keep_append f l m) ∙ cond_append (f x) x (keep f l) (keep f m)

  cond_reverse : (b : Bool) (x : A) (l : List A) → reverse l ++ cond b (x ∷ []) [] ≡ reverse (cond b (x ∷ l) l)
  cond_reverse true x l = sym (reverse-cons x l)
  cond_reverse false x l = append-nil (reverse l)

  pub keep_reverse : (f : A → Bool) (l : List A) → keep f (reverse l) ≡ reverse (keep f l)
  keep_reverse f [] = refl
  keep_reverse f (x ∷ l) =
      ap (keep f) (reverse-cons x l) ∙ keep_append f (reverse l) (x ∷ []) ∙ ap (λ r. r ++ keep f (x ∷ [])) (keep_reverse f l)
      ∙ cond_reverse (f x) x (keep f l)

  pub keep_length : (f : A → Bool) (l : List A) → length (keep f l) ≤ length l
  keep_length f [] = omega arith
  keep_length f (x ∷ l) = go (f x) (keep_length f l)
    where
      go : (b : Bool) → length (keep f l) ≤ length l → length (cond b (x ∷ keep f l) (keep f l)) ≤ suc (length l)
      go true h = omega arith
      go false h = omega arith

  pub length_gather : {B : Type 0} (g : A → List B) (n : ℕ) (l : List A) → ((x : A) → Memᴰ x l → length (g x) ≤ n) → length (gather g l) ≤ length l * n
  length_gather g n [] h = omega arith
  length_gather g n (x ∷ l) h =
      omega (arith, length-append (g x) (gather g l), h x (Memᴰ.head refl), length_gather g n l (λ y m. h y (Memᴰ.tail m)))

  -- the first n elements from number i on, by the first of them
  pub taken_cons : (l : List A) (n i : ℕ) (d : A) → i < n → n ≤ length l → drop i (take n l) ≡ get_or l i d ∷ drop (i + 1) (take n l)
  taken_cons l n i d h k = rw (add-one, drop-cons (take n l) i d (omega (arith, length-take-le n l k)), get_or-take n l i d h)

  pub taken_none : (l : List A) (n i : ℕ) → n ≤ i → drop i (take n l) ≡ []
  taken_none l n i h = drop_of_length-le (take n l) {i = i} (omega (arith, length-take n l))

  -- one of the first n elements, where all of them pass
  pub all_taken : (f : A → Bool) (n : ℕ) (l : List A) (i : ℕ) (d : A) → all f (take n l) ≡ true → n ≤ length l → i < n → f (get_or l i d) ≡ true
  all_taken f n l i d h k g = rw (get_or-take n l i d g) at (all_at f h (mem_get_or (take n l) i d (omega (arith, length-take-le n l k))))

  -- a list from its other end
  pub take_reverse : (k : ℕ) (l : List A) → k ≤ length l → take k (reverse l) ≡ reverse (drop (length l - k) l)
  take_reverse k l h =
      let n : ℕ = length l - k in
      ap (λ r. take k (reverse r)) (sym (take-append-drop n l)) ∙ ap (take k) (reverse-append (take n l) (drop n l))
      ∙ take_at (reverse (drop n l)) (reverse (take n l)) k (simp (length-reverse, length-drop) (omega arith))

  pub get_d_reverse : (l : List A) (i : ℕ) (d : A) → i < length l → get_or (reverse l) i d ≡ get_or l (length l - 1 - i) d
  get_d_reverse [] i d h = absurd (omega arith)
  get_d_reverse (x ∷ l) i d h =
      ap (λ r. get_or r i d) (reverse-cons x l)
      ∙ ⊎_elim last (λ k. inner k (get_d_reverse l i d k)) (eq-or-lt_of_le (le_of_suc-le-suc h))
    where
      last : i ≡ length l → get_or (reverse l ++ (x ∷ [])) i d ≡ get_or (x ∷ l) (length (x ∷ l) - 1 - i) d
      last e =
          let none : length (x ∷ l) - 1 - i ≡ 0 = omega arith in
          rw (none, e, ← length-reverse l) (get_or-append_seam (reverse l) x [] d)

      inner : i < length l → get_or (reverse l) i d ≡ get_or l (length l - 1 - i) d → get_or (reverse l ++ (x ∷ [])) i d ≡ get_or (x ∷ l) (length (x ∷ l) - 1 - i) d
      inner k ih =
          let more : length (x ∷ l) - 1 - i ≡ suc (length l - 1 - i) = omega arith in
          get_or-append (reverse l) (x ∷ []) d i (omega (arith, length-reverse l)) ∙ ih ∙ ap (λ j. get_or (x ∷ l) j d) (sym more)

  pub map_reverse : {B : Type 0} (g : A → B) (l : List A) → map g (reverse l) ≡ reverse (map g l)
  map_reverse g [] = refl
  map_reverse g (x ∷ l) = rw (reverse-cons x l, reverse-cons (g x) (map g l), map-append g (reverse l) (x ∷ []), map_reverse g l)

pub mem_numbers : (p k n : ℕ) → Memᴰ p (numbers k n) ↔ ((k ≤ p) × (p < k + n))
mem_numbers p k zero = (λ m. absurd (Memᴰ.not-nil m), λ h. absurd (omega arith))
mem_numbers p k (suc n) = let ih = mem_numbers p (suc k) n in (
  λ m. ⊎_elim (λ e. omega arith) (λ i. let r = ih.0 i in omega arith) (Memᴰ.cases_cons m),
  λ h. dite (ℕ_discrete p k) Memᴰ.head (λ e. Memᴰ.tail (ih.1 (omega arith))),
)

pub length_numbers : (k n : ℕ) → length (numbers k n) ≡ n
length_numbers k zero = refl
length_numbers k (suc n) = ap suc (length_numbers (suc k) n)

pub get_or_numbers : {A : Type 0} (f : ℕ → A) (k n i : ℕ) (d : A) → i < n → get_or (map f (numbers k n)) i d ≡ f (k + i)
get_or_numbers f k zero i d h = absurd (not-suc-le-zero h)
get_or_numbers f k (suc n) zero d h = ap f (omega arith)
get_or_numbers f k (suc n) (suc i) d h = get_or_numbers f (suc k) n i d (le_of_suc-le-suc h) ∙ ap f (omega arith)
