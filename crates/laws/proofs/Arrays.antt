-- Laws of lists that code keeps in arrays: lists by their elements, neighbouring elements written over, one list written behind
-- another, and the place of an element of a set looked for from the end. The turns of loops that go by them are in Turns.
use mathlib.Core.Path.{◌≡◌, refl, sym, ap, ap₂, ◌∙◌}
use mathlib.Core.Bool.{true}
use mathlib.Core.List.Memᴰ
use mathlib.Core.List.{List, [], ◌∷◌, ◌++◌, map, append_assoc, append-nil, Memᴰ}
use mathlib.Core.Logic.{◌⊎◌, inl, inr, ⊎_elim}
use Prim.Native.Nat.{ℕ, zero, suc, ◌+◌, ◌≤◌, ◌<◌, Ordering}
use native.Mathlib.Nat.{zero-add}
use native.Mathlib.Omega.{arith}
use lib.ListN.{length, take, drop, get_or, set, length-map, length-set, take-append-drop}
use lib.Seq.{sets, ext_get_or, take-suc, drop-cons, split_at, drop-length, take-length, append_snoc}
use lib.Seq.{get_or-set_same, get_or-set_other, take-suc-set}
use borrow.Author.Tests.{lt-leb}
use Rattle.laws.specs.Lists.{numbers}
use Rattle.laws.specs.Order.{IsOrder, is_less, flip, rising, ascending}
use Rattle.laws.specs.Sets.{put, insert, insert_all, full, within}
use Rattle.laws.proofs.Lists.{and_true_split, length_numbers, get_or_numbers}
use Rattle.laws.proofs.Sets.{rising_before, length_insert_all}

module _ {A : Type 0} where
  -- a map over the first n numbers, element by element
  pub length_of : (f : ℕ → A) (n : ℕ) → length (map f (numbers 0 n)) ≡ n
  length_of f n = length-map (numbers 0 n) f ∙ length_numbers 0 n

  pub get_d_of : (f : ℕ → A) (n i : ℕ) (d : A) → i < n → get_or (map f (numbers 0 n)) i d ≡ f i
  get_d_of f n i d h = get_or_numbers f 0 n i d h ∙ ap f (zero-add i)

  pub maps_agree : (f g : ℕ → A) (i n : ℕ) → ((k : ℕ) → i ≤ k → k < i + n → f k ≡ g k) → map f (numbers i n) ≡ map g (numbers i n)
  maps_agree f g i zero h = refl
  maps_agree f g i (suc n) h = ap₂ ◌∷◌ (h i (omega arith) (omega arith)) (maps_agree f g (suc i) n (λ k a b. h k (omega arith) (omega arith)))

  -- a list, and a part of one, as such a map
  pub by_index : (d : A) (l : List A) (n : ℕ) → length l ≡ n → l ≡ map (λ k. get_or l k d) (numbers 0 n)
  by_index d l n h = ext_get_or d l _ (h ∙ sym (length_of (λ k. get_or l k d) n)) (λ i m. sym (get_d_of (λ k. get_or l k d) n i d (omega arith)))

  pub part_at : (d : A) (l : List A) (i n : ℕ) → i + n ≤ length l → take n (drop i l) ≡ map (λ k. get_or l k d) (numbers i n)
  part_at d l i zero h = refl
  part_at d l i (suc n) h = rw (drop-cons l i d (omega arith)) (ap (λ r. get_or l i d ∷ r) (part_at d l (suc i) n (omega arith)))

  -- what is known of an array of structs is the length of the list of what they are made of
  pub map_length : {B : Type 0} (f : A → B) (l : List A) (n : ℕ) → length (map f l) ≡ n → length l ≡ n
  map_length f l n h = sym (length-map l f) ∙ h

  -- neighbouring elements written over
  pub get_or_sets_other : (l : List A) (i : ℕ) (vs : List A) (j : ℕ) (d : A) → (j < i) ⊎ (i + length vs ≤ j) → get_or (sets l i vs) j d ≡ get_or l j d
  get_or_sets_other l i [] j d h = refl
  get_or_sets_other l i (v ∷ vs) j d h =
      get_or_sets_other (set l i v) (suc i) vs j d (⊎_elim (λ a. inl (omega arith)) (λ b. inr (omega arith)) h)
      ∙ get_or-set_other l i j v d (λ e. ⊎_elim (λ a. omega arith) (λ b. omega arith) h)

  pub get_or_sets_same : (l : List A) (i : ℕ) (vs : List A) (j : ℕ) (d : A) → i + length vs ≤ length l → j < length vs
      → get_or (sets l i vs) (i + j) d ≡ get_or vs j d
  get_or_sets_same l i [] j d h k = elim k [ ]
  get_or_sets_same l i (v ∷ vs) zero d h k =
      get_or_sets_other (set l i v) (suc i) vs (i + 0) d (inl (omega arith)) ∙ ap (λ n. get_or (set l i v) n d) (omega arith) ∙ get_or-set_same l i v d (omega arith)
  get_or_sets_same l i (v ∷ vs) (suc j) d h k =
      ap (λ n. get_or (sets (set l i v) (suc i) vs) n d) (omega arith) ∙ get_or_sets_same (set l i v) (suc i) vs j d (rw length-set (omega arith)) (omega arith)

module _ {A : Type 0} (cmp : A → A → Ordering) where
  -- x before the last element: put among the others
  insert_before_last : (x y : A) (l : List A) → cmp x y ≡ Ordering.lt → insert cmp x (l ++ y ∷ []) ≡ insert cmp x l ++ y ∷ []
  insert_before_last x y [] h = rw h
  insert_before_last x y (z ∷ l) h = go (cmp x z) (insert_before_last x y l h)
    where
      go : (c : Ordering) → insert cmp x (l ++ y ∷ []) ≡ insert cmp x l ++ y ∷ []
          → put c x z (l ++ y ∷ []) (insert cmp x (l ++ y ∷ [])) ≡ put c x z l (insert cmp x l) ++ y ∷ []
      go Ordering.lt ih = refl
      go Ordering.eq ih = refl
      go Ordering.gt ih = ap (λ r. z ∷ r) ih

  -- x after each element of a: put among those behind
  insert_behind : (x : A) (a b : List A) → ((z : A) → Memᴰ z a → cmp x z ≡ Ordering.gt) → insert cmp x (a ++ b) ≡ a ++ insert cmp x b
  insert_behind x [] b h = refl
  insert_behind x (z ∷ a) b h = rw (h z (Memᴰ.head refl)) (ap (λ r. z ∷ r) (insert_behind x a b (λ w m. h w (Memᴰ.tail m))))

  -- The place of x, looked for from the end: x is before each element from i on. First none is passed, then one more.
  pub insertion_none : (x : A) (l : List A) (i : ℕ) → length l ≡ i → insert cmp x l ≡ insert cmp x (take i l) ++ drop i l
  insertion_none x l i h = rw (← h, take-length, drop-length, append-nil)

  pub insertion_passed : (x : A) (l : List A) (i : ℕ) (d : A) → i < length l → cmp x (get_or l i d) ≡ Ordering.lt
      → insert cmp x l ≡ insert cmp x (take (suc i) l) ++ drop (suc i) l → insert cmp x l ≡ insert cmp x (take i l) ++ drop i l
  insertion_passed x l i d h b e =
      e ∙ ap (λ r. insert cmp x r ++ drop (suc i) l) (take-suc l i d h)
      ∙ ap (λ r. r ++ drop (suc i) l) (insert_before_last x (get_or l i d) (take i l) b)
      ∙ append_snoc (insert cmp x (take i l)) (get_or l i d) (drop (suc i) l)
      ∙ ap (λ r. insert cmp x (take i l) ++ r) (sym (drop-cons l i d h))

module _ {A : Type 0} {cmp : A → A → Ordering} (o : IsOrder cmp) where
  -- in an ascending list each element before y stands before y
  rising_until : (z w y : A) (a b : List A) → rising cmp w (a ++ y ∷ b) ≡ true → Memᴰ z (w ∷ a) → cmp z y ≡ Ordering.lt
  rising_until z _ y _ b h (Memᴰ.tail {xs = []} m) = elim m [ ]
  rising_until z w y a b h (Memᴰ.head e) = rw e (rising_before o w (a ++ y ∷ b) h y (Memᴰ.append_right a (Memᴰ.head refl)))
  rising_until z w y (v ∷ a) b h (Memᴰ.tail m) = rising_until z v y a b (and_true_split (is_less (cmp w v)) (rising cmp v (a ++ y ∷ b)) h).1 m

  ascending_until : (y : A) (a b : List A) → ascending cmp (a ++ y ∷ b) ≡ true → (z : A) → Memᴰ z a → cmp z y ≡ Ordering.lt
  ascending_until y [] b h z m = elim m [ ]
  ascending_until y (w ∷ a) b h z m = rising_until z w y a b h m

  -- so x, which is not before the element at i, is after all before that one
  not_before : (x : A) (l : List A) (i : ℕ) (d : A) → ascending cmp l ≡ true → i < length l
      → (cmp x (get_or l i d) ≡ Ordering.gt) ⊎ (cmp x (get_or l i d) ≡ Ordering.eq)
      → (z : A) → Memᴰ z (take i l) → cmp x z ≡ Ordering.gt
  not_before x l i d ha h b z m =
      let y = get_or l i d in
      let zy : cmp z y ≡ Ordering.lt = ascending_until y (take i l) (drop (suc i) l) (ap (ascending cmp) (sym (split_at l i d h)) ∙ ha) z m in
      ⊎_elim
      (λ g. o.turned z x ∙ ap flip (o.through z y x zy (o.turned x y ∙ ap flip g)))
      (λ g. o.turned z x ∙ ap flip (ap (cmp z) (o.equal x y g) ∙ zy)) b

  -- the element at i, the last that is not after x, is x: nothing is put; or it is before x: x is put behind it
  insertion_last : (x : A) (l : List A) (i : ℕ) (d : A) → ascending cmp l ≡ true → i < length l
      → (cmp x (get_or l i d) ≡ Ordering.gt) ⊎ (cmp x (get_or l i d) ≡ Ordering.eq) → insert cmp x l ≡ insert cmp x (take (suc i) l) ++ drop (suc i) l
      → insert cmp x l ≡ (take i l ++ insert cmp x (get_or l i d ∷ [])) ++ drop (suc i) l
  insertion_last x l i d ha h b e =
      e ∙ ap (λ r. insert cmp x r ++ drop (suc i) l) (take-suc l i d h)
      ∙ ap (λ r. r ++ drop (suc i) l) (insert_behind cmp x (take i l) (get_or l i d ∷ []) (not_before x l i d ha h b))

  pub insertion_found : (x : A) (l : List A) (i : ℕ) (d : A) → ascending cmp l ≡ true → i < length l → cmp x (get_or l i d) ≡ Ordering.eq
      → insert cmp x l ≡ insert cmp x (take (suc i) l) ++ drop (suc i) l → insert cmp x l ≡ l
  insertion_found x l i d ha h b e =
      insertion_last x l i d ha h (inr b) e ∙ rw (b, ← take-suc l i d h) (take-append-drop (suc i) l)

  pub insertion_behind : (x : A) (l : List A) (i : ℕ) (d : A) → ascending cmp l ≡ true → i < length l → cmp x (get_or l i d) ≡ Ordering.gt
      → insert cmp x l ≡ insert cmp x (take (suc i) l) ++ drop (suc i) l → insert cmp x l ≡ take (suc i) l ++ x ∷ drop (suc i) l
  insertion_behind x l i d ha h b e =
      insertion_last x l i d ha h (inl b) e ∙ rw (b, take-suc l i d h) (simp append_assoc)

  -- one more of xs inserted
  pub insert_all_more : (xs : List A) (i : ℕ) (d : A) (l : List A) → i < length xs
      → insert_all cmp (drop i xs) l ≡ insert_all cmp (drop (suc i) xs) (insert cmp (get_or xs i d) l)
  insert_all_more xs i d l h = rw (drop-cons xs i d h)

  -- one that exceeds the cap exceeds it for good
  pub insert_all_over : (cap : ℕ) (xs l : List A) → cap < length l → within cap (insert_all cmp xs l) ≡ full
  insert_all_over cap xs l h = rw (lt-leb (length (insert_all cmp xs l)) cap (omega (arith, length_insert_all o xs l)))

module _ {A : Type 0} where
  -- one more element of f written behind the first of l
  pub behind_more : (l m f : List A) (at i : ℕ) (d : A) → at + i < length m → i < length f → take (at + i) m ≡ take at l ++ take i f
      → take (suc (at + i)) (set m (at + i) (get_or f i d)) ≡ take at l ++ take (suc i) f
  behind_more l m f at i d h k e =
      take-suc-set m (at + i) (get_or f i d) h ∙ ap (λ r. r ++ get_or f i d ∷ []) e ∙ append_assoc (take at l) (take i f) (get_or f i d ∷ [])
      ∙ ap (λ r. take at l ++ r) (sym (take-suc f i d k))
