-- One turn of the loop over the held disjuncts: those whose mask has a position, from a number on. For the proofs of the functions.
use mathlib.Core.Path.{◌≡◌, refl, ap, ◌∙◌}
use mathlib.Core.Bool.{Bool, true, false, cond}
use mathlib.Core.List.{List, [], ◌∷◌, ◌++◌}
use Prim.Native.Nat.{ℕ, ◌+◌, ◌≤◌, ◌<◌}
use native.Mathlib.Numerals.{add-one}
use native.Mathlib.Omega.{arith}
use lib.ListN.{length, take, drop, get_or}
use lib.Seq.{length-take-le, get_or-take}
use Rattle.laws.specs.Bits.{bit}
use Rattle.laws.proofs.Bits.{bit_zero}
use Rattle.laws.proofs.Lists.{taken_none}
use Rattle.meaning.specs.Labels.{Disjunct}
use Rattle.bounded.specs.Bounded.{pick, with_start}
use Rattle.bounded.proofs.Picks.{pick_next}

module _ (q : ℕ) (masks : List ℕ) (l : List Disjunct) (n : ℕ) where
  -- the disjuncts from number i on whose mask has position q
  unfoldable pub ahead : ℕ → List Disjunct
  ahead i = pick (λ x. bit q x) (drop i (take n masks)) (drop i (take n l))

  pub ahead_all : ahead 0 ≡ pick (λ x. bit q x) (take n masks) (take n l)
  unfolding ahead
  ahead_all = refl

  pub ahead_none : (i : ℕ) → n ≤ i → ahead i ≡ []
  unfolding ahead
  ahead_none i h = ap (λ xs. pick (λ x. bit q x) xs (drop i (take n l))) (taken_none masks n i h)

  -- the first of them
  pub ahead_next : (i : ℕ) {t : Bool} → n ≤ length l → i < n → bit q (get_or masks i 0) ≡ t
      → ahead i ≡ cond t (get_or l i [] ∷ ahead (i + 1)) (ahead (i + 1))
  unfolding ahead
  ahead_next i k j e =
      pick_next (λ x. bit q x) (bit_zero q) i (take n masks) (take n l) [] (omega (arith, length-take-le n l k))
      ∙ rw (get_or-take n masks i 0 j, get_or-take n l i [] j, e, add-one i)

-- the start's label stands before the others
pub start_before : (t : Bool) (l : List Disjunct) → with_start t [] ++ l ≡ with_start t l
unfolding with_start
start_before true l = refl
start_before false l = refl
