-- What the definitions of soundness compute for single structs: counts and tags from both sides of their limits, and the place of a name. A
-- wrong definition is refused here first, because a fact is false.
use mathlib.Core.Path.{◌≡◌, refl}
use mathlib.Core.Bool.{Bool, true, false}
use mathlib.Core.List.{List, [], ◌∷◌, map}
use Prim.Native.Nat.{ℕ, ◌^◌}
use lib.ListN.{replicate}
use Rattle.table.specs.declared.Parameter.{Parameter}
use Rattle.table.specs.declared.Symbol.{Symbol}
use Rattle.table.specs.declared.Name.{Name}
use Rattle.slot.specs.declared.Slot.{Slot}
use Rattle.sound.specs.Soundness.{symbol_counts, slot_counts, name_placed}

abbrev slot : Bool → ℕ → Slot
slot b n = record { bound = b; value = 9; count = n; excluded = replicate 6 0 }

-- a bound variable with no exclusion, a free one with none and with six; a bound one with one, a free one with seven
pub slots : map slot_counts (slot true 0 ∷ slot false 0 ∷ slot false 6 ∷ slot true 1 ∷ slot false 7 ∷ []) ≡ true ∷ true ∷ true ∷ false ∷ false ∷ []
unfolding slot_counts
slots = refl

abbrev tagged : ℕ → Parameter
tagged t = record { tag = t; number = 0 }

abbrev symbol : ℕ → List Parameter → Symbol
symbol n ps = record { kind = 1; count = n; parameters = ps }

-- tags 0 to 2, a tag of 3 that no count reaches; one that a count reaches, and a count of five
pub symbols : map symbol_counts
    (symbol 3 (tagged 0 ∷ tagged 1 ∷ tagged 2 ∷ tagged 3 ∷ [])
    ∷ symbol 4 (replicate 4 (tagged 2))
    ∷ symbol 4 (tagged 0 ∷ tagged 1 ∷ tagged 2 ∷ tagged 3 ∷ [])
    ∷ symbol 5 (replicate 4 (tagged 1))
    ∷ [])
    ≡ true ∷ true ∷ false ∷ false ∷ []
unfolding symbol_counts
symbols = refl

abbrev name : (start size : ℕ) → Name
name p n = record { start = p; size = n }

-- "every number in its declared range" of a name's place: inside the longest text, and beyond it
pub names : map name_placed (name 0 0 ∷ name 4095 1 ∷ name 4096 0 ∷ name 4096 1 ∷ name 4090 7 ∷ name (2 ^ 60) 0 ∷ name 0 (2 ^ 60) ∷ [])
    ≡ true ∷ true ∷ true ∷ false ∷ false ∷ false ∷ false ∷ []
names = refl

-- no more is asked of a name than that it ends where a text may end, however long it is
pub long_names : map name_placed (name 0 13 ∷ name 100 3996 ∷ name 0 4096 ∷ []) ≡ true ∷ true ∷ true ∷ []
long_names = refl

-- not judged: the number beside an ignored place, and exclusions at a bound variable that are not counted
pub not_judged : (symbol_counts (symbol 2 (record { tag = 0; number = 77 } ∷ record { tag = 1; number = 3 } ∷ replicate 2 (tagged 0))) ≡ true)
    × (slot_counts (record { bound = true; value = 9; count = 0; excluded = replicate 6 7 }) ≡ true)
unfolding symbol_counts slot_counts
not_judged = (refl, refl)
