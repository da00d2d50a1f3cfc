-- How the code holds what a disjunct says of one variable, and the answers of a comparison.
use Rattle.std.specs.Prelude.{true, false, cond, List, [], ◌∷◌, ltb, length, take, replicate}
use Prim.Native.Nat.{ℕ, suc, Ordering}
use Rattle.laws.specs.Parts.{pad}
use Rattle.meaning.specs.Labels.{Entry, bound, free}
use Rattle.meaning.specs.Room.{exclusion_limit}
use Rattle.slot.specs.declared.Slot.{Slot}
use Rattle.slot.specs.declared.Order.{Order}
use Rattle.slot.specs.declared.Order.TheVariants.{Before, Same, After}

-- code to plain: what is counted
unfoldable pub view_slot : Slot → Entry
view_slot s = cond s.bound (bound s.value) (free (take s.count s.excluded))

-- plain to code: what is not counted is zero
unfoldable pub slot_of : Entry → Slot
slot_of (bound a) = record { bound = true; value = a; count = 0; excluded = replicate exclusion_limit 0 }
slot_of (free xs) = record { bound = false; value = 0; count = length xs; excluded = pad exclusion_limit 0 xs }

-- before, same, after as the code's answers
abbrev pub rank : Ordering → Order
rank Ordering.lt = Before
rank Ordering.eq = Same
rank Ordering.gt = After

-- how many elements at the beginning are smaller than x
abbrev pub smaller : ℕ → List ℕ → ℕ
smaller x [] = 0
smaller x (y ∷ l) = cond (ltb y x) (suc (smaller x l)) 0
