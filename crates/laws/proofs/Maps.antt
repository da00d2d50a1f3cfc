-- Maps over lists, tests and ordered sets. A map that keeps the comparison of the elements that occur commutes with the
-- making of sets, and what follows two lists of one length does not change how they compare.
use mathlib.Core.Path.{◌≡◌, refl, sym, ap, ap₂, ◌∙◌}
use mathlib.Core.Bool.{Bool, true, false, cond, ◌&&◌}
use mathlib.Core.List.Memᴰ
use mathlib.Core.List.{List, [], ◌∷◌, ◌++◌, map, map-append, Memᴰ}
use mathlib.Core.Logic.{⊎_elim}
use Prim.Native.Nat.{ℕ, zero, suc, ◌+◌, ◌≤◌, ◌<◌, Ordering}
use native.Mathlib.Omega.{arith}
use lib.ListN.{length, take, drop, get_or, replicate}
use Rattle.laws.specs.Lists.{all, keep, gather}
use Rattle.laws.specs.Order.{IsOrder, is_less, and_then, lex, rising, ascending}
use Rattle.laws.specs.Sets.{put, insert, insert_all, set_of}
use Rattle.laws.proofs.Lists.{taken_cons, taken_none}
use Rattle.laws.proofs.Order.{lex_order}
use Rattle.laws.proofs.Sets.{mem_insert}

module _ {A B : Type 0} where
  -- maps that agree on the elements of a list
  pub map_agree : (f g : A → B) (l : List A) → ((x : A) → Memᴰ x l → f x ≡ g x) → map f l ≡ map g l
  map_agree f g [] h = refl
  map_agree f g (x ∷ l) h = ap₂ ◌∷◌ (h x (Memᴰ.head refl)) (map_agree f g l (λ y m. h y (Memᴰ.tail m)))

  pub gather_agree : (f g : A → List B) (l : List A) → ((x : A) → Memᴰ x l → f x ≡ g x) → gather f l ≡ gather g l
  gather_agree f g [] h = refl
  gather_agree f g (x ∷ l) h = ap₂ ◌++◌ (h x (Memᴰ.head refl)) (gather_agree f g l (λ y m. h y (Memᴰ.tail m)))

  cond_map : (f : A → B) (t : Bool) (x : A) (l : List A) → cond t (f x ∷ map f l) (map f l) ≡ map f (cond t (x ∷ l) l)
  cond_map f true x l = refl
  cond_map f false x l = refl

  pub keep_map : (t : B → Bool) (f : A → B) (l : List A) → keep t (map f l) ≡ map f (keep (λ x. t (f x)) l)
  keep_map t f [] = refl
  keep_map t f (x ∷ l) = ap (λ r. cond (t (f x)) (f x ∷ r) r) (keep_map t f l) ∙ cond_map f (t (f x)) x (keep (λ y. t (f y)) l)

  pub map_replicate : (f : A → B) (n : ℕ) (x : A) → map f (replicate n x) ≡ replicate n (f x)
  map_replicate f zero x = refl
  map_replicate f (suc n) x = ap (f x ∷◌) (map_replicate f n x)

  pub take_map : (f : A → B) (n : ℕ) (l : List A) → take n (map f l) ≡ map f (take n l)
  take_map f zero l = refl
  take_map f (suc n) [] = refl
  take_map f (suc n) (x ∷ l) = ap (f x ∷◌) (take_map f n l)

  drop_map : (f : A → B) (n : ℕ) (l : List A) → drop n (map f l) ≡ map f (drop n l)
  drop_map f zero l = refl
  drop_map f (suc n) [] = refl
  drop_map f (suc n) (x ∷ l) = drop_map f n l

  -- the first n elements mapped, from number i on, by the first of them
  pub mapped_cons : (f : A → B) (l : List A) (n i : ℕ) (d : A) → i < n → n ≤ length l
      → drop i (map f (take n l)) ≡ f (get_or l i d) ∷ drop (i + 1) (map f (take n l))
  mapped_cons f l n i d h k =
      drop_map f i (take n l) ∙ ap (map f) (taken_cons l n i d h k) ∙ ap (f (get_or l i d) ∷◌) (sym (drop_map f (i + 1) (take n l)))

  pub mapped_none : (f : A → B) (l : List A) (n i : ℕ) → n ≤ i → drop i (map f (take n l)) ≡ []
  mapped_none f l n i h = drop_map f i (take n l) ∙ ap (map f) (taken_none l n i h)

  pub gather_map : {C : Type 0} (g : B → List C) (f : A → B) (l : List A) → gather g (map f l) ≡ gather (λ x. g (f x)) l
  gather_map g f [] = refl
  gather_map g f (x ∷ l) = ap (g (f x) ++◌) (gather_map g f l)

  pub map_gather : {C : Type 0} (f : B → C) (g : A → List B) (l : List A) → map f (gather g l) ≡ gather (λ x. map f (g x)) l
  map_gather f g [] = refl
  map_gather f g (x ∷ l) = map-append f (g x) (gather g l) ∙ ap (map f (g x) ++◌) (map_gather f g l)

pub all_replicate : {A : Type 0} (f : A → Bool) (n : ℕ) (x : A) → f x ≡ true → all f (replicate n x) ≡ true
all_replicate f zero x h = refl
all_replicate f (suc n) x h = ap₂ ◌&&◌ h (all_replicate f n x h)

-- what follows two lists of one length does not change how they compare
pub lex_followed : {A : Type 0} {cmp : A → A → Ordering} → IsOrder cmp → (a b r : List A) → length a ≡ length b → lex cmp (a ++ r) (b ++ r) ≡ lex cmp a b
lex_followed o [] [] r h = (lex_order o).self r
lex_followed o [] (y ∷ b) r h = absurd (omega arith)
lex_followed o (x ∷ a) [] r h = absurd (omega arith)
lex_followed {cmp} o (x ∷ a) (y ∷ b) r h = ap (and_then (cmp x y)) (lex_followed o a b r (omega arith))

-- a map that keeps the comparison of the elements of which P holds
module _ {A B : Type 0} {c : A → A → Ordering} (d : B → B → Ordering) (f : A → B) (P : A → Type 0)
    (o : IsOrder c) (same : (x y : A) → P x → P y → d (f x) (f y) ≡ c x y) where
  -- P holds of every element
  abbrev Each : List A → Type 0
  Each l = (x : A) → Memᴰ x l → P x

  rising_map : (x : A) (l : List A) → P x → Each l → rising d (f x) (map f l) ≡ rising c x l
  rising_map x [] h k = refl
  rising_map x (y ∷ l) h k =
      let here = k y (Memᴰ.head refl) in
      ap₂ (λ t r. is_less t && r) (same x y h here) (rising_map y l here (λ z m. k z (Memᴰ.tail m)))

  pub ascending_map : (l : List A) → Each l → ascending d (map f l) ≡ ascending c l
  ascending_map [] k = refl
  ascending_map (x ∷ l) k = rising_map x l (k x (Memᴰ.head refl)) (λ z m. k z (Memᴰ.tail m))

  put_map : (t : Ordering) (x y : A) (l r : List A) → put t (f x) (f y) (map f l) (map f r) ≡ map f (put t x y l r)
  put_map Ordering.lt x y l r = refl
  put_map Ordering.eq x y l r = refl
  put_map Ordering.gt x y l r = refl

  pub insert_map : (x : A) (l : List A) → P x → Each l → insert d (f x) (map f l) ≡ map f (insert c x l)
  insert_map x [] h k = refl
  insert_map x (y ∷ l) h k =
      ap₂ (λ t r. put t (f x) (f y) (map f l) r) (same x y h (k y (Memᴰ.head refl))) (insert_map x l h (λ z m. k z (Memᴰ.tail m)))
      ∙ put_map (c x y) x y l (insert c x l)

  pub insert_all_map : (xs l : List A) → Each xs → Each l → insert_all d (map f xs) (map f l) ≡ map f (insert_all c xs l)
  insert_all_map [] l h k = refl
  insert_all_map (x ∷ xs) l h k =
      let here = h x (Memᴰ.head refl) in
      ap (insert_all d (map f xs)) (insert_map x l here k)
      ∙ insert_all_map xs (insert c x l) (λ z m. h z (Memᴰ.tail m)) λ z m. ⊎_elim (λ (e : z ≡ x). rw e here) (k z) ((mem_insert o z x l).0 m)

  pub set_of_map : (xs : List A) → Each xs → set_of d (map f xs) ≡ map f (set_of c xs)
  set_of_map xs h = insert_all_map xs [] h (λ z m. absurd (Memᴰ.not-nil m))
