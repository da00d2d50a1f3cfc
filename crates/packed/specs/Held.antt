-- Positions and disjuncts in lent words as what is held.
use Rattle.std.specs.Prelude.{List, Option, Some, None, ℕ, take}
use Rattle.laws.specs.Sets.{Grown, full, grown}
use Rattle.meaning.specs.Labels.{Held, held_of}
use Rattle.packed.specs.Sets.{disjuncts_in}

-- the first n positions and disjuncts
unfoldable pub held_in : ℕ → (at words : List ℕ) → List Held
held_in n at w = held_of (take n at) (take n (disjuncts_in w))

-- what a count and the words say: so much is held, or there is no room
abbrev pub held_grown : Option ℕ → (at words : List ℕ) → Grown Held
held_grown None at w = full
held_grown (Some n) at w = grown (held_in n at w)
