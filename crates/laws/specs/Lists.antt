-- Tests over lists by a Bool-valued function, the sublist of the elements that pass, and lists of neighbouring numbers.
use Rattle.std.specs.Prelude.{Bool, true, false, cond, ◌&&◌, ◌||◌, List, [], ◌∷◌, ◌++◌, ℕ, zero, suc}

module _ {A : Type 0} where
  -- some element passes
  abbrev pub any : (A → Bool) → List A → Bool
  any f [] = false
  any f (x ∷ l) = f x || any f l

  -- every element passes
  abbrev pub all : (A → Bool) → List A → Bool
  all f [] = true
  all f (x ∷ l) = f x && all f l

  -- the elements that pass, in their order
  abbrev pub keep : (A → Bool) → List A → List A
  keep f [] = []
  keep f (x ∷ l) = let r = keep f l in cond (f x) (x ∷ r) r

  -- the lists that `f` gives for the elements, one after the other
  abbrev pub gather : {B : Type 0} → (A → List B) → List A → List B
  gather f [] = []
  gather f (x ∷ l) = f x ++ gather f l

-- `count` neighbouring numbers, the first being `start`
abbrev pub numbers : (start count : ℕ) → List ℕ
numbers k zero = []
numbers k (suc n) = k ∷ numbers (suc k) n
