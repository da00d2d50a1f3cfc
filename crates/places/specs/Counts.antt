-- What a count says with the list that it counts: so many of its elements, or, where there is none, that there is no room.
use Rattle.std.specs.Prelude.{List, Option, Some, None, ℕ, take}
use Rattle.laws.specs.Sets.{Grown, full, grown}

abbrev pub grown_of : {A : Type 0} → Option ℕ → List A → Grown A
grown_of None l = full
grown_of (Some n) l = grown (take n l)
