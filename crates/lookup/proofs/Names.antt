-- What a name found, or none, says of its index among the names.
use mathlib.Core.Path.{◌≡◌, refl}
use mathlib.Core.Bool.{Bool, true, false, cond}
use mathlib.Core.List.{List}
use Prim.Native.Nat.{ℕ}
use lib.Dec.{ltb}
use lib.ListN.{length}
use Rattle.std.specs.Prelude.{Some, None}
use Rattle.std.specs.Option.{is_some}
use Rattle.form.specs.Text.{Bytes, Span}
use Rattle.form.specs.Lines.{index_of}
use Rattle.lookup.specs.Found.{found}

some_is : {A : Type 0} (b : Bool) (x : A) → is_some (cond b (Some x) None) ≡ b
some_is true x = refl
some_is false x = refl

module _ (s : Bytes) (xs : List Span) (w : Bytes) where
  pub found_is : is_some (found s xs w) ≡ ltb (index_of s xs w) (length xs)
  found_is = some_is (ltb (index_of s xs w) (length xs)) (index_of s xs w)

  pub found_some : {i : ℕ} → Some i ≡ found s xs w → (i ≡ index_of s xs w) × (ltb i (length xs) ≡ true)
  found_some {i} h = by (ltb (index_of s xs w) (length xs)) refl
    where
      by : (b : Bool) → ltb (index_of s xs w) (length xs) ≡ b → (i ≡ index_of s xs w) × (ltb i (length xs) ≡ true)
      by true k = let j = rw k at h in let e : i ≡ index_of s xs w = cc in (e, rw (e, k))
      by false k = let j = rw k at h in absurd (cc)

  pub found_none : None ≡ found s xs w → ltb (index_of s xs w) (length xs) ≡ false
  found_none h = by (ltb (index_of s xs w) (length xs)) refl
    where
      by : (b : Bool) → ltb (index_of s xs w) (length xs) ≡ b → ltb (index_of s xs w) (length xs) ≡ false
      by true k = let j = rw k at h in absurd (cc)
      by false k = k
