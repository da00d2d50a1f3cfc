-- Finite sets as ascending lists without repetition, made by insertion; and sets that may hold only so many elements.
use Rattle.std.specs.Prelude.{Bool, cond, List, [], ◌∷◌, leb, length}
use Prim.Native.Nat.{ℕ, Ordering}
use Rattle.laws.specs.Lists.{any}
use Rattle.laws.specs.Order.{is_same}

-- x put before y ∷ l, dropped as equal to y, or put further on, where `rest` is l with x in it
abbrev pub put : {A : Type 0} → Ordering → A → A → List A → List A → List A
put Ordering.lt x y l rest = x ∷ y ∷ l
put Ordering.eq x y l rest = y ∷ l
put Ordering.gt x y l rest = y ∷ rest

module _ {A : Type 0} (cmp : A → A → Ordering) where
  -- l with x in its place, or l itself where x stands in it
  abbrev pub insert : A → List A → List A
  insert x [] = x ∷ []
  insert x (y ∷ l) = let r = insert x l in put (cmp x y) x y l r

  -- l with each of the elements inserted, from the left
  abbrev pub insert_all : List A → List A → List A
  insert_all [] l = l
  insert_all (x ∷ xs) l = insert_all xs (insert x l)

  -- the set of the elements of a list
  abbrev pub set_of : List A → List A
  set_of xs = insert_all xs []

  -- whether x is an element
  abbrev pub member : A → List A → Bool
  member x l = any (λ y. is_same (cmp x y)) l

-- what comes of growing a set that has room for so many
pub data Grown (A : Type 0) : Type 0 where
  full : Grown A
  grown : List A → Grown A

-- the set if it has at most `cap` elements
abbrev pub within : {A : Type 0} → ℕ → List A → Grown A
within cap l = cond (leb (length l) cap) (grown l) full

module _ {A : Type 0} (cmp : A → A → Ordering) (cap : ℕ) where
  -- one insertion under the cap; once full, full for good
  abbrev pub grow : A → Grown A → Grown A
  grow x full = full
  grow x (grown l) = within cap (insert cmp x l)

  abbrev pub grow_all : List A → Grown A → Grown A
  grow_all [] g = g
  grow_all (x ∷ xs) g = grow_all xs (grow x g)
