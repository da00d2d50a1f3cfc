-- One more exclusion of a slot, by its place among those there are: the value is found, or a gap is opened for it. For `admits`
-- and `excluding`.
use mathlib.Core.Path.{◌≡◌, refl, sym, ap, ◌∙◌}
use mathlib.Core.Bool.{true, false, not}
use mathlib.Core.List.{List, ◌∷◌, ◌++◌}
use Prim.Native.Nat.{ℕ, suc, ◌+◌, compare, ◌≤◌, ◌<◌}
use native.Mathlib.Numerals.{add-one}
use native.Mathlib.Omega.{arith}
use lib.Dec.{eqb, leb}
use lib.ListN.{length, take, drop, get_or, length-append, length-take, length-drop}
use lib.Seq.{get_or-take, take-take}
use Rattle.laws.specs.Lists.{any}
use Rattle.laws.specs.Sets.{insert}
use Rattle.meaning.specs.Labels.{free, exclusions, admits, excluding}
use Rattle.slot.specs.declared.Slot.{Slot}
use Rattle.slot.specs.Slots.{view_slot, smaller}
use Rattle.slot.proofs.Slots.{view_bound, view_free, view_taken, few_slot}
use Rattle.slot.proofs.Insertions.{smaller_few, insert_found, insert_gap}
use Rattle.slot.proofs.Arrays.{gap}

module _ (s : Slot) (x : ℕ) where
  pub admits_free : s.bound ≡ false → not (any (eqb x) (exclusions (view_slot s))) ≡ admits (view_slot s) x
  admits_free h = rw (view_free s h)

  -- a bound variable has no exclusions
  pub excluding_bound : s.bound ≡ true → excluding (view_slot s) x ≡ view_slot s
  excluding_bound h = rw (view_bound s h)

  excluding_free : s.bound ≡ false → excluding (view_slot s) x ≡ free (insert compare x (exclusions (view_slot s)))
  excluding_free h = rw (view_free s h)

  -- a slot that stays as it is has room
  pub kept_room : length s.excluded ≡ 6 → excluding (view_slot s) x ≡ view_slot s
      → true ≡ leb (length (exclusions (excluding (view_slot s) x))) 6
  kept_room l e = sym (ap (λ y. leb (length (exclusions y)) 6) e ∙ few_slot s l)

  -- the slot is free, and counts n numbers, of which k are before x
  module _ (n k : ℕ) (h : s.bound ≡ false) (p : n ≡ length (exclusions (view_slot s))) (q : k ≡ smaller x (exclusions (view_slot s))) where
    -- the exclusions are the first n numbers
    firsts : exclusions (view_slot s) ≡ take n s.excluded
    firsts = view_taken s n p

    pub insertion_few : k ≤ n
    insertion_few = omega (arith, smaller_few x (exclusions (view_slot s)))

    at_insertion : k < n → get_or (exclusions (view_slot s)) (smaller x (exclusions (view_slot s))) 0 ≡ get_or s.excluded k 0
    at_insertion l = rw (← q, firsts) (get_or-take n s.excluded k 0 l)

    pub found_slot : k < n → get_or s.excluded k 0 ≡ x → excluding (view_slot s) x ≡ view_slot s
    found_slot l e =
        excluding_free h ∙ ap free (insert_found x (exclusions (view_slot s)) (omega arith) (at_insertion l ∙ e)) ∙ same
      where
        same : free (exclusions (view_slot s)) ≡ view_slot s
        same = rw (view_free s h)

    module _ (m : k < n → get_or s.excluded k 0 ≡ x → ⊥) where
      pub gap_slot : excluding (view_slot s) x ≡ free (gap s.excluded k x n)
      gap_slot =
          excluding_free h ∙ ap free (insert_gap x (exclusions (view_slot s)) (λ l e. m (omega arith) (sym (at_insertion (omega arith)) ∙ e)) ∙ opened)
        where
          opened : let l = exclusions (view_slot s) in take (smaller x l) l ++ x ∷ drop (smaller x l) l ≡ gap s.excluded k x n
          opened = rw (← q, firsts, take-take k n s.excluded insertion_few)

      -- it has room if the code says so
      pub gap_room : n ≤ length s.excluded → leb (length (exclusions (excluding (view_slot s) x))) 6 ≡ leb (suc n) 6
      gap_room f =
          let e = insertion_few in
          let g : length (gap s.excluded k x n) ≡ suc n = simp (length-append, length-take, length-drop) (omega arith) in
          ap (λ y. leb (length (exclusions y)) 6) gap_slot ∙ ap (λ j. leb j 6) g

      -- the slot with the gap in its array
      pub gap_view : (ys : List ℕ) → take (suc n) ys ≡ gap s.excluded k x n
          → view_slot (record { bound = false; value = 0; count = n + 1; excluded = ys }) ≡ excluding (view_slot s) x
      gap_view ys e = view_free (record { bound = false; value = 0; count = n + 1; excluded = ys }) refl ∙ ap free (rw add-one e) ∙ sym gap_slot
