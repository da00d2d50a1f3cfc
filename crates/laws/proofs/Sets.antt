-- Laws of ordered distinct sets made by insertion, over any order; and the capped set against the unbounded one.
use mathlib.Core.Path.{◌≡◌, refl, sym, ap, ap₂, ◌∙◌}
use mathlib.Core.Bool.{Bool, true, false, cond, ◌&&◌, ◌||◌, or-true, or_assoc, and_assoc, or_self_left, and_self_left}
use mathlib.Core.List.Memᴰ
use mathlib.Core.List.{List, [], ◌∷◌, ◌++◌, map, Memᴰ}
use mathlib.Core.Logic.{◌↔◌, ◌⊎◌, inl, inr, ⊎_elim}
use Prim.Native.Nat.{ℕ, suc, ◌+◌, ◌≤◌, ◌<◌, suc-le-suc, Ordering}
use native.Mathlib.Omega.{arith}
use lib.Dec.{leb}
use lib.ListN.{length}
use borrow.Author.Tests.{leb-true, leb-false, le-leb, lt-leb}
use Rattle.laws.specs.Lists.{any, all, keep}
use Rattle.laws.specs.Order.{IsOrder, is_less, is_same, rising, ascending}
use Rattle.laws.specs.Sets.{put, insert, insert_all, set_of, member, full, grown, within, grow_all}
use Rattle.laws.proofs.Lists.{and_true_split, and_front, any_found, any_of, mem_keep}

or_left_comm : (a b c : Bool) → (a || (b || c)) ≡ (b || (a || c))
or_left_comm true b c = sym (or-true b)
or_left_comm false b c = refl

less_lt : (c : Ordering) → is_less c ≡ true → c ≡ Ordering.lt
less_lt Ordering.lt h = refl
less_lt Ordering.eq h = cc
less_lt Ordering.gt h = cc

pub same_eq : (c : Ordering) → is_same c ≡ true → c ≡ Ordering.eq
same_eq Ordering.lt h = cc
same_eq Ordering.eq h = refl
same_eq Ordering.gt h = cc

module _ {A : Type 0} where
  mem_cons : (a x : A) (l : List A) → Memᴰ a (x ∷ l) ↔ ((a ≡ x) ⊎ Memᴰ a l)
  mem_cons a x l = (Memᴰ.cases_cons, ⊎_elim Memᴰ.head Memᴰ.tail)

  -- a list without one of its elements
  without : {x : A} {m : List A} → Memᴰ x m → (r : List A) × (length m ≡ suc (length r)) × ((z : A) → Memᴰ z m → (z ≡ x) ⊎ Memᴰ z r)
  without (Memᴰ.head {xs = l} e) = (l, refl, λ z k. ⊎_elim (λ p. inl (p ∙ sym e)) inr (Memᴰ.cases_cons k))
  without (Memᴰ.tail {x = y} m) = let r = without m in (
    y ∷ r.0,
    ap suc r.1,
    λ z k. ⊎_elim (λ p. inr (Memᴰ.head p)) (λ n. ⊎_elim inl (λ j. inr (Memᴰ.tail j)) (r.2 z n)) (Memᴰ.cases_cons k),
  )

module _ {A : Type 0} {cmp : A → A → Ordering} (o : IsOrder cmp) where
  pub any_insert : (f : A → Bool) (x : A) (l : List A) → any f (insert cmp x l) ≡ (f x || any f l)
  any_insert f x [] = refl
  any_insert f x (y ∷ l) = go (cmp x y) refl (any_insert f x l)
    where
      go : (c : Ordering) → cmp x y ≡ c → any f (insert cmp x l) ≡ (f x || any f l)
          → any f (put c x y l (insert cmp x l)) ≡ (f x || (f y || any f l))
      go Ordering.lt e ih = refl
      go Ordering.eq e ih = rw (o.equal x y e) (sym (or_self_left (f y) (any f l)))
      go Ordering.gt e ih = ap (λ b. f y || b) ih ∙ or_left_comm (f y) (f x) (any f l)

  pub all_insert : (f : A → Bool) (x : A) (l : List A) → all f (insert cmp x l) ≡ (f x && all f l)
  all_insert f x [] = refl
  all_insert f x (y ∷ l) = go (cmp x y) refl (all_insert f x l)
    where
      go : (c : Ordering) → cmp x y ≡ c → all f (insert cmp x l) ≡ (f x && all f l)
          → all f (put c x y l (insert cmp x l)) ≡ (f x && (f y && all f l))
      go Ordering.lt e ih = refl
      go Ordering.eq e ih = rw (o.equal x y e) (sym (and_self_left (f y) (all f l)))
      go Ordering.gt e ih = ap (λ b. f y && b) ih ∙ and_front (f y) (f x) (all f l)

  pub any_insert_all : (f : A → Bool) (xs l : List A) → any f (insert_all cmp xs l) ≡ (any f xs || any f l)
  any_insert_all f [] l = refl
  any_insert_all f (x ∷ xs) l =
      any_insert_all f xs (insert cmp x l) ∙ ap (λ b. any f xs || b) (any_insert f x l) ∙ or_left_comm (any f xs) (f x) (any f l)
      ∙ sym (or_assoc (f x) (any f xs) (any f l))

  pub all_insert_all : (f : A → Bool) (xs l : List A) → all f (insert_all cmp xs l) ≡ (all f xs && all f l)
  all_insert_all f [] l = refl
  all_insert_all f (x ∷ xs) l =
      all_insert_all f xs (insert cmp x l) ∙ ap (λ b. all f xs && b) (all_insert f x l) ∙ and_front (all f xs) (f x) (all f l)
      ∙ sym (and_assoc (f x) (all f xs) (all f l))

  pub mem_insert : (a x : A) (l : List A) → Memᴰ a (insert cmp x l) ↔ ((a ≡ x) ⊎ Memᴰ a l)
  mem_insert a x [] = mem_cons a x []
  mem_insert a x (y ∷ l) = go (cmp x y) refl (mem_insert a x l)
    where
      go : (c : Ordering) → cmp x y ≡ c → (Memᴰ a (insert cmp x l) ↔ ((a ≡ x) ⊎ Memᴰ a l))
          → Memᴰ a (put c x y l (insert cmp x l)) ↔ ((a ≡ x) ⊎ Memᴰ a (y ∷ l))
      go Ordering.lt e ih = mem_cons a x (y ∷ l)
      go Ordering.eq e ih = (inr, ⊎_elim (λ p. Memᴰ.head (p ∙ o.equal x y e)) (λ m. m))
      go Ordering.gt e ih = (
        λ m. ⊎_elim (λ p. inr (Memᴰ.head p)) (λ n. ⊎_elim inl (λ k. inr (Memᴰ.tail k)) (ih.0 n)) (Memᴰ.cases_cons m),
        ⊎_elim (λ p. Memᴰ.tail (ih.1 (inl p)))
            (λ m. ⊎_elim Memᴰ.head (λ n. Memᴰ.tail (ih.1 (inr n))) (Memᴰ.cases_cons m)),
      )

  pub mem_insert_all : (a : A) (xs l : List A) → Memᴰ a (insert_all cmp xs l) ↔ (Memᴰ a xs ⊎ Memᴰ a l)
  mem_insert_all a [] l = (inr, ⊎_elim (λ m. absurd (Memᴰ.not-nil m)) (λ m. m))
  mem_insert_all a (x ∷ xs) l =
      let ih = mem_insert_all a xs (insert cmp x l) in
      let one = mem_insert a x l in (
        λ m. ⊎_elim (λ n. inl (Memᴰ.tail n)) (λ n. ⊎_elim (λ p. inl (Memᴰ.head p)) inr (one.0 n)) (ih.0 m),
        λ s. ih.1 (⊎_elim (λ m. ⊎_elim (λ p. inr (one.1 (inl p))) inl (Memᴰ.cases_cons m)) (λ m. inr (one.1 (inr m))) s),
      )

  pub mem_set_of : (a : A) (xs : List A) → Memᴰ a (set_of cmp xs) ↔ Memᴰ a xs
  mem_set_of a xs =
      let both = mem_insert_all a xs [] in
      (λ m. ⊎_elim (λ n. n) (λ n. absurd (Memᴰ.not-nil n)) (both.0 m), λ m. both.1 (inl m))

  pub member_mem : (a : A) (l : List A) → (member cmp a l ≡ true) ↔ Memᴰ a l
  member_mem a l = (
    λ h. let r = any_found (λ y. is_same (cmp a y)) l h in Memᴰ.cast (o.equal a r.0 (same_eq (cmp a r.0) r.2)) r.1,
    λ m. any_of (λ y. is_same (cmp a y)) m (ap is_same (o.self a)),
  )

  -- in an ascending list the head stands before every later element
  pub rising_before : (x : A) (l : List A) → rising cmp x l ≡ true → (a : A) → Memᴰ a l → cmp x a ≡ Ordering.lt
  rising_before x [] h a x4 = elim x4 [ ]
  rising_before x (y ∷ l) h a (Memᴰ.head e) = rw e (less_lt (cmp x y) (and_true_split (is_less (cmp x y)) (rising cmp y l) h).0)
  rising_before x (y ∷ l) h a (Memᴰ.tail m) =
      let hs = and_true_split (is_less (cmp x y)) (rising cmp y l) h in
      o.through x y a (less_lt (cmp x y) hs.0) (rising_before y l hs.1 a m)

  -- and the other way round
  rising_of : (x : A) (l : List A) → ascending cmp l ≡ true → ((a : A) → Memᴰ a l → cmp x a ≡ Ordering.lt) → rising cmp x l ≡ true
  rising_of x [] ha h = refl
  rising_of x (y ∷ l) ha h = ap₂ ◌&&◌ (ap is_less (h y (Memᴰ.head refl))) ha

  rising_ascending : (x : A) (l : List A) → rising cmp x l ≡ true → ascending cmp l ≡ true
  rising_ascending x [] h = refl
  rising_ascending x (y ∷ l) h = (and_true_split (is_less (cmp x y)) (rising cmp y l) h).1

  -- so the head does not come again
  rising_once : (x : A) (l : List A) → rising cmp x l ≡ true → (a : A) → Memᴰ a l → a ≡ x → ⊥
  rising_once x l h a m e = let z : ◌≡◌ {A = ℕ} 0 1 = cc (o.self x, rising_before x l h a m) in omega arith

  pub insert_ascending : (x : A) (l : List A) → ascending cmp l ≡ true → ascending cmp (insert cmp x l) ≡ true
  insert_ascending x [] h = refl
  insert_ascending x (y ∷ l) h = go (cmp x y) refl (insert_ascending x l (rising_ascending y l h))
    where
      go : (c : Ordering) → cmp x y ≡ c → ascending cmp (insert cmp x l) ≡ true → ascending cmp (put c x y l (insert cmp x l)) ≡ true
      go Ordering.lt e ih = rw e h
      go Ordering.eq e ih = h
      go Ordering.gt e ih = rising_of y (insert cmp x l) ih λ a m.
          ⊎_elim (λ (p : a ≡ x). rw (p, o.turned x y, e)) (rising_before y l h a) ((mem_insert a x l).0 m)

  pub insert_all_ascending : (xs l : List A) → ascending cmp l ≡ true → ascending cmp (insert_all cmp xs l) ≡ true
  insert_all_ascending [] l h = h
  insert_all_ascending (x ∷ xs) l h = insert_all_ascending xs (insert cmp x l) (insert_ascending x l h)

  pub set_of_ascending : (xs : List A) → ascending cmp (set_of cmp xs) ≡ true
  set_of_ascending xs = insert_all_ascending xs [] refl

  tail_within : (x y : A) (a b : List A) → y ≡ x → rising cmp x a ≡ true
      → ((z : A) → Memᴰ z (x ∷ a) → Memᴰ z (y ∷ b)) → (z : A) → Memᴰ z a → Memᴰ z b
  tail_within x y a b e ha h z m =
      ⊎_elim (λ p. absurd (rising_once x a ha z m (p ∙ e))) (λ n. n) (Memᴰ.cases_cons (h z (Memᴰ.tail m)))

  -- an ascending list is decided by its members
  pub same_members : (a b : List A) → ascending cmp a ≡ true → ascending cmp b ≡ true → ((x : A) → Memᴰ x a ↔ Memᴰ x b) → a ≡ b
  same_members [] [] ha hb h = refl
  same_members [] (y ∷ b) ha hb h = absurd (Memᴰ.not-nil ((h y).1 (Memᴰ.head refl)))
  same_members (x ∷ a) [] ha hb h = absurd (Memᴰ.not-nil ((h x).0 (Memᴰ.head refl)))
  same_members (x ∷ a) (y ∷ b) ha hb h =
      ap₂ ◌∷◌ heads (same_members a b (rising_ascending x a ha) (rising_ascending y b hb) tails)
    where
      -- were each head among the other's later elements, each would stand before the other
      later : Memᴰ x b → x ≡ y
      later m =
          ⊎_elim sym (λ n. cc (rising_before y b hb x m, rising_before x a ha y n, o.turned x y)) (Memᴰ.cases_cons ((h y).1 (Memᴰ.head refl)))

      heads : x ≡ y
      heads = ⊎_elim (λ p. p) later (Memᴰ.cases_cons ((h x).0 (Memᴰ.head refl)))

      tails : (z : A) → Memᴰ z a ↔ Memᴰ z b
      tails z = (tail_within x y a b (sym heads) ha (λ w. (h w).0) z, tail_within y x b a heads hb (λ w. (h w).1) z)

  pub set_of_self : (l : List A) → ascending cmp l ≡ true → set_of cmp l ≡ l
  set_of_self l h = same_members (set_of cmp l) l (set_of_ascending l) h (λ a. mem_set_of a l)

  pub keep_ascending : (f : A → Bool) (l : List A) → ascending cmp l ≡ true → ascending cmp (keep f l) ≡ true
  keep_ascending f [] h = refl
  keep_ascending f (x ∷ l) h = go (f x) (keep_ascending f l (rising_ascending x l h))
    where
      go : (b : Bool) → ascending cmp (keep f l) ≡ true → ascending cmp (cond b (x ∷ keep f l) (keep f l)) ≡ true
      go true ih = rising_of x (keep f l) ih (λ a m. rising_before x l h a ((mem_keep f a l).0 m).0)
      go false ih = ih

  pub append_ascending : (a b : List A) → ascending cmp a ≡ true → ascending cmp b ≡ true
      → ((x y : A) → Memᴰ x a → Memᴰ y b → cmp x y ≡ Ordering.lt) → ascending cmp (a ++ b) ≡ true
  append_ascending [] b ha hb h = hb
  append_ascending (x ∷ a) b ha hb h =
      rising_of x (a ++ b) (append_ascending a b (rising_ascending x a ha) hb (λ y z m n. h y z (Memᴰ.tail m) n))
      λ y m. ⊎_elim (rising_before x a ha y) (h x y (Memᴰ.head refl)) (Memᴰ.append_cases a m)

  -- insertion never shrinks a set, and adds at most one element
  pub length_insert : (x : A) (l : List A) → (length l ≤ length (insert cmp x l)) × (length (insert cmp x l) ≤ suc (length l))
  length_insert x [] = omega arith
  length_insert x (y ∷ l) = go (cmp x y) (length_insert x l)
    where
      go : (c : Ordering) → (length l ≤ length (insert cmp x l)) × (length (insert cmp x l) ≤ suc (length l))
          → (suc (length l) ≤ length (put c x y l (insert cmp x l))) × (length (put c x y l (insert cmp x l)) ≤ suc (suc (length l)))
      go Ordering.lt ih = omega arith
      go Ordering.eq ih = omega arith
      go Ordering.gt ih = omega arith

  pub length_insert_all : (xs l : List A) → (length l ≤ length (insert_all cmp xs l)) × (length (insert_all cmp xs l) ≤ length xs + length l)
  length_insert_all [] l = omega arith
  length_insert_all (x ∷ xs) l = omega (arith, length_insert x l, length_insert_all xs (insert cmp x l))

  -- an ascending list whose elements all stand in m is no longer than m
  pub ascending_length : (a m : List A) → ascending cmp a ≡ true → ((x : A) → Memᴰ x a → Memᴰ x m) → length a ≤ length m
  ascending_length [] m ha h = omega arith
  ascending_length (x ∷ a) m ha h =
      let r = without (h x (Memᴰ.head refl)) in
      rw r.1 (suc-le-suc (ascending_length a r.0 (rising_ascending x a ha) λ z k.
      ⊎_elim (λ p. absurd (rising_once x a ha z k p)) (λ n. n) (r.2 z (h z (Memᴰ.tail k)))))

  grow_all_full : (cap : ℕ) (xs : List A) → grow_all cmp cap xs full ≡ full
  grow_all_full cap [] = refl
  grow_all_full cap (x ∷ xs) = grow_all_full cap xs

  -- the rest of the growth, after a test of k against the cap
  grow_all_tested : (cap : ℕ) (xs k : List A) (b : Bool) → leb (length k) cap ≡ b
      → (length k ≤ cap → grow_all cmp cap xs (grown k) ≡ within cap (insert_all cmp xs k))
      → grow_all cmp cap xs (cond b (grown k) full) ≡ within cap (insert_all cmp xs k)
  grow_all_tested cap xs k true e h = h (leb-true (length k) cap e)
  grow_all_tested cap xs k false e h =
      let over : cap < length (insert_all cmp xs k) = omega (arith, leb-false (length k) cap e, length_insert_all xs k) in
      rw (grow_all_full cap xs, lt-leb (length (insert_all cmp xs k)) cap over)

  -- growing under a cap ends full exactly where the unbounded set exceeds the cap
  pub grow_all_within : (cap : ℕ) (xs l : List A) → length l ≤ cap → grow_all cmp cap xs (grown l) ≡ within cap (insert_all cmp xs l)
  grow_all_within cap [] l h = rw (le-leb (length l) cap h)
  grow_all_within cap (x ∷ xs) l h =
      let k : List A = insert cmp x l in
      grow_all_tested cap xs k (leb (length k) cap) refl (grow_all_within cap xs k)

map_rising : {A B : Type 0} (c : A → A → Ordering) (d : B → B → Ordering) (f : A → B) → ((x y : A) → d (f x) (f y) ≡ c x y)
    → (x : A) (l : List A) → rising d (f x) (map f l) ≡ rising c x l
map_rising c d f h x [] = refl
map_rising c d f h x (y ∷ l) = ap₂ (λ k r. is_less k && r) (h x y) (map_rising c d f h y l)

-- a map that keeps the comparison keeps the order
pub map_ascending : {A B : Type 0} (c : A → A → Ordering) (d : B → B → Ordering) (f : A → B) → ((x y : A) → d (f x) (f y) ≡ c x y)
    → (l : List A) → ascending d (map f l) ≡ ascending c l
map_ascending c d f h [] = refl
map_ascending c d f h (x ∷ l) = map_rising c d f h x l
