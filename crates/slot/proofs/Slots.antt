-- A slot against the entry that it holds, and the answers of a comparison. For the functions of this crate and for
-- the disjunct.
use mathlib.Core.Path.{◌≡◌, refl, ap, ◌∙◌}
use mathlib.Core.Bool.{Bool, true, false, cond}
use mathlib.Core.List.{List}
use Prim.Native.Nat.{ℕ, ◌≤◌, min, Ordering}
use native.Mathlib.Omega.{arith}
use lib.Dec.{leb}
use lib.ListN.{length, take, length-take}
use borrow.Author.Tests.{le-leb}
use Rattle.laws.specs.Order.{and_then}
use Rattle.laws.specs.Parts.{pad}
use Rattle.laws.proofs.Parts.{pad_take}
use Rattle.meaning.specs.Labels.{Entry, bound, free, exclusions}
use Rattle.slot.specs.declared.Slot.{Slot}
use Rattle.slot.specs.declared.Order.TheVariants.{Same, After}
use Rattle.slot.specs.Slots.{view_slot, slot_of, rank}
use Rattle.slot.proofs.Insertions.{retaken}

pub view_slot_law : (x : Entry) → view_slot (slot_of x) ≡ x
unfolding view_slot slot_of
view_slot_law (bound a) = refl
view_slot_law (free xs) = ap free (pad_take 6 0 xs)

pub view_bound : (s : Slot) → s.bound ≡ true → view_slot s ≡ bound s.value
unfolding view_slot
view_bound s h = rw h

pub view_free : (s : Slot) → s.bound ≡ false → view_slot s ≡ free (take s.count s.excluded)
unfolding view_slot
view_free s h = rw h

-- how many a free slot counts: no more than there are
pub view_size : (s : Slot) → s.bound ≡ false → length (exclusions (view_slot s)) ≡ min s.count (length s.excluded)
view_size s h = rw (view_free s h) (length-take s.count s.excluded)

-- the exclusions of a slot are the first elements of its array
pub view_taken : (s : Slot) (n : ℕ) → n ≡ length (exclusions (view_slot s)) → exclusions (view_slot s) ≡ take n s.excluded
unfolding view_slot
view_taken s n h = rw h (go s.bound)
  where
    go : (b : Bool) → let l = exclusions (cond b (bound s.value) (free (take s.count s.excluded))) in l ≡ take (length l) s.excluded
    go true = refl
    go false = retaken s.count s.excluded

-- a free slot with zeros behind what it counts
pub tidy_free : (s : Slot) (n : ℕ) (xs : List ℕ) → s.bound ≡ false → n ≡ length (exclusions (view_slot s)) → xs ≡ pad 6 0 (take n s.excluded)
    → record { bound = false; value = 0; count = n; excluded = xs } ≡ slot_of (view_slot s)
unfolding slot_of
tidy_free s n xs h e p =
    let v = ap exclusions (view_free s h) in
    rw (p, view_free s h, ← view_taken s n e, v)
    (ap (λ k. record { bound = false; value = 0; count = k; excluded = pad 6 0 (take s.count s.excluded) }) (e ∙ ap length v))

-- no more is excluded than there are places for
pub few_excluded : (s : Slot) → length s.excluded ≤ 6 → leb (length (exclusions (view_slot s))) 6 ≡ true
unfolding view_slot
few_excluded s h = go s.bound
  where
    go : (b : Bool) → leb (length (exclusions (cond b (bound s.value) (free (take s.count s.excluded))))) 6 ≡ true
    go true = refl
    go false = le-leb (length (take s.count s.excluded)) 6 (omega (arith, length-take s.count s.excluded))

pub few_slot : (s : Slot) → length s.excluded ≡ 6 → leb (length (exclusions (view_slot s))) 6 ≡ true
few_slot s h = few_excluded s (omega arith)

-- a comparison by its answer
pub rank_before : (o : Ordering) → (rank o ≡ After → ⊥) → (rank o ≡ Same → ⊥) → o ≡ Ordering.lt
rank_before Ordering.lt h k = refl
rank_before Ordering.eq h k = absurd (k refl)
rank_before Ordering.gt h k = absurd (h refl)

pub rank_equal : (a b : Ordering) → rank a ≡ rank b → a ≡ b
rank_equal Ordering.lt Ordering.lt h = refl
rank_equal Ordering.lt Ordering.eq h = cc
rank_equal Ordering.lt Ordering.gt h = cc
rank_equal Ordering.eq Ordering.lt h = cc
rank_equal Ordering.eq Ordering.eq h = refl
rank_equal Ordering.eq Ordering.gt h = cc
rank_equal Ordering.gt Ordering.lt h = cc
rank_equal Ordering.gt Ordering.eq h = cc
rank_equal Ordering.gt Ordering.gt h = refl

-- a first comparison that finds a difference decides; one that finds none leaves it to the second
pub then_first : (p q : Ordering) → (rank p ≡ Same → ⊥) → rank (and_then p q) ≡ rank p
then_first Ordering.lt q h = refl
then_first Ordering.eq q h = absurd (h refl)
then_first Ordering.gt q h = refl

pub then_second : (p q : Ordering) → rank p ≡ Same → and_then p q ≡ q
then_second Ordering.lt q h = cc
then_second Ordering.eq q h = refl
then_second Ordering.gt q h = cc
