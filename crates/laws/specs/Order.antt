-- Strict orders given by a three-way comparison: what such a comparison must satisfy, one comparison after another,
-- and the lexicographic comparison of lists, in which a list stands before any that it begins.
use Rattle.std.specs.Prelude.{◌≡◌, Bool, true, false, ◌&&◌, List, [], ◌∷◌}
use Prim.Native.Nat.{Ordering}

-- a before b, and a the same as b
abbrev pub is_less : Ordering → Bool
is_less Ordering.lt = true
is_less Ordering.eq = false
is_less Ordering.gt = false

abbrev pub is_same : Ordering → Bool
is_same Ordering.lt = false
is_same Ordering.eq = true
is_same Ordering.gt = false

-- the comparison the other way round
abbrev pub flip : Ordering → Ordering
flip Ordering.lt = Ordering.gt
flip Ordering.eq = Ordering.eq
flip Ordering.gt = Ordering.lt

-- the second comparison decides where the first finds no difference
abbrev pub and_then : Ordering → Ordering → Ordering
and_then Ordering.lt o = Ordering.lt
and_then Ordering.eq o = o
and_then Ordering.gt o = Ordering.gt

-- A comparison that is a strict total order: it finds no difference just between equals, turned round it gives the
-- flipped answer, and "before" is transitive.
pub record IsOrder {A : Type 0} (cmp : A → A → Ordering) : Type 0 where
  pub self : (a : A) → cmp a a ≡ Ordering.eq
  pub equal : (a b : A) → cmp a b ≡ Ordering.eq → a ≡ b
  pub turned : (a b : A) → cmp b a ≡ flip (cmp a b)
  pub through : (a b c : A) → cmp a b ≡ Ordering.lt → cmp b c ≡ Ordering.lt → cmp a c ≡ Ordering.lt

module _ {A : Type 0} (cmp : A → A → Ordering) where
  -- element by element from the left; a list before any that it begins
  abbrev pub lex : List A → List A → Ordering
  lex [] [] = Ordering.eq
  lex [] (y ∷ l) = Ordering.lt
  lex (x ∷ k) [] = Ordering.gt
  lex (x ∷ k) (y ∷ l) = let r = lex k l in and_then (cmp x y) r

  -- each element before the next
  abbrev pub rising : A → List A → Bool
  rising x [] = true
  rising x (y ∷ l) = is_less (cmp x y) && rising y l

  abbrev pub ascending : List A → Bool
  ascending [] = true
  ascending (x ∷ l) = rising x l
