-- Groups of lent words: how many there are, which words each has, a turn of a loop that reads one group after the other into an array, and lists
-- that are written group by group and cut again. For the laws of the blocks, and for the functions over them (book_block, state_block).
use mathlib.Core.Path.{◌≡◌, refl, sym, ap, ap₂, ◌∙◌}
use mathlib.Core.List.{List, [], ◌∷◌, ◌++◌, map, map-map, append_assoc, Memᴰ}
use Prim.Native.Nat.{ℕ, zero, suc, ◌+◌, ◌-◌, ◌*◌, ◌≤◌, ◌<◌}
use native.Mathlib.Omega.{arith}
use lib.ListN.{length, take, drop, get_or, set, length-map, get_or-map}
use lib.Seq.{take_all, take_at, drop_at, drop-drop}
use Rattle.laws.specs.Lists.{gather}
use Rattle.laws.proofs.Fills.{fill_more}
use Rattle.laws.proofs.Maps.{map_agree}
use Rattle.blocks.specs.Groups.{groups}

pub groups_length : (k n : ℕ) (w : List ℕ) → length (groups k n w) ≡ n
groups_length k zero w = refl
groups_length k (suc n) w = ap suc (groups_length k n (drop k w))

pub groups_at : (k n : ℕ) (w : List ℕ) (i : ℕ) → i < n → get_or (groups k n w) i [] ≡ take k (drop (k * i) w)
groups_at k zero w i h = absurd (omega arith)
groups_at k (suc n) w zero h = let e : k * 0 ≡ 0 = omega arith in rw e
groups_at k (suc n) w (suc i) h =
    let e : k + k * i ≡ k * suc i = omega arith in
    groups_at k n (drop k w) i (omega arith) ∙ ap (take k) (drop-drop (k * i) k w ∙ ap (λ j. drop j w) e)

-- what is made of each group
module _ {A : Type 0} (f : List ℕ → A) (k n : ℕ) (w : List ℕ) where
  pub made_length : length (map f (groups k n w)) ≡ n
  made_length = length-map (groups k n w) f ∙ groups_length k n w

  pub made_at : (i : ℕ) → i < n → get_or (map f (groups k n w)) i (f []) ≡ f (take k (drop (k * i) w))
  made_at i h = get_or-map f (groups k n w) i [] ∙ ap f (groups_at k n w i h)

module _ {A : Type 0} (f : List ℕ → A) (k n : ℕ) (w : List ℕ) (i : ℕ) (r : List A) where
  -- the i-th group, lent from its beginning to its end, and what is read there put into its place
  pub groups_more : {x : A} → i < n → length r ≡ n → take i r ≡ map f (take i (groups k n w)) → x ≡ f (take (k * i + k - k * i) (drop (k * i) w))
      → take (i + 1) (set r i x) ≡ map f (take (i + 1) (groups k n w))
  groups_more h size before made =
      let many : length (groups k n w) ≡ n = groups_length k n w in
      let wide : k * i + k - k * i ≡ k = omega arith in
      ap (λ y. take (i + 1) (set r i y)) (made ∙ ap f (ap (λ m. take m (drop (k * i) w)) wide ∙ sym (groups_at k n w i h)))
      ∙ fill_more f (groups k n w) r i [] (omega arith) (omega arith) before

  -- all of them
  pub groups_all : n ≤ i → length r ≡ n → take i r ≡ map f (take i (groups k n w)) → r ≡ map f (groups k n w)
  groups_all h size before =
      let many : length (groups k n w) ≡ n = groups_length k n w in
      sym (take_all i r (omega arith)) ∙ before ∙ ap (map f) (take_all i (groups k n w) (omega arith))

module _ {A : Type 0} (f : A → List ℕ) (k : ℕ) where
  -- what is written group by group, and whatever stands behind, is cut into these groups
  pub groups_gather : (l : List A) → ((x : A) → Memᴰ x l → length (f x) ≡ k) → (r : List ℕ) → groups k (length l) (gather f l ++ r) ≡ map f l
  groups_gather [] h r = refl
  groups_gather (x ∷ l) h r =
      let size = h x (Memᴰ.head refl) in
      let rest = gather f l ++ r in
      ap (λ w. take k w ∷ groups k (length l) (drop k w)) (append_assoc (f x) (gather f l) r)
      ∙ ap₂ (λ g w. g ∷ groups k (length l) w) (take_at (f x) rest k size) (drop_at (f x) rest k size)
      ∙ ap (λ gs. f x ∷ gs) (groups_gather l (λ y m. h y (Memᴰ.tail m)) r)

  -- and each is read back
  pub gathered_back : (g : List ℕ → A) (l : List A) (n : ℕ) → length l ≡ n → ((x : A) → Memᴰ x l → length (f x) ≡ k)
      → ((x : A) → Memᴰ x l → g (f x) ≡ x) → (r : List ℕ) → map g (groups k n (gather f l ++ r)) ≡ l
  gathered_back g l n count size back r =
      ap (λ m. map g (groups k m (gather f l ++ r))) (sym count) ∙ ap (map g) (groups_gather l size r) ∙ map-map g f l
      ∙ map_agree (λ x. g (f x)) (λ x. x) l back ∙ map_same l
    where
      map_same : (l : List A) → map (λ x. x) l ≡ l
      map_same [] = refl
      map_same (x ∷ l) = ap (λ r. x ∷ r) (map_same l)

-- a part behind two others
pub drop_two : {A : Type 0} (a b r : List A) (m n : ℕ) → length a ≡ m → length b ≡ n → drop (m + n) (a ++ (b ++ r)) ≡ r
drop_two a b r m n h k = sym (drop-drop n m (a ++ (b ++ r))) ∙ ap (drop n) (drop_at a (b ++ r) m h) ∙ drop_at b r n k

-- fewer groups
pub groups_take : (k : ℕ) (n m : ℕ) (w : List ℕ) → n ≤ m → take n (groups k m w) ≡ groups k n w
groups_take k zero m w h = refl
groups_take k (suc n) zero w h = absurd (omega arith)
groups_take k (suc n) (suc m) w h = ap (λ gs. take k w ∷ gs) (groups_take k n m (drop k w) (omega arith))
