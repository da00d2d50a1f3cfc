-- An array that a loop fills from the front with what a function gives of another list's elements. For the masks of the positions
-- that are held (step), and for the pool (state).
use mathlib.Core.Path.{◌≡◌, ◌∙◌}
use mathlib.Core.List.{List, map, map-append}
use Prim.Native.Nat.{ℕ, ◌+◌, ◌<◌}
use native.Mathlib.Numerals.{add-one}
use lib.ListN.{length, take, get_or, set}
use lib.Seq.{take-suc, take-suc-set}

pub fill_more : {A B : Type 0} (f : A → B) (l : List A) (r : List B) (i : ℕ) (d : A) → i < length l → i < length r → take i r ≡ map f (take i l)
    → take (i + 1) (set r i (f (get_or l i d))) ≡ map f (take (i + 1) l)
fill_more f l r i d h k e = rw (add-one i) (take-suc-set r i (f (get_or l i d)) k ∙ rw (take-suc l i d h, map-append f, e))
