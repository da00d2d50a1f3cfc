-- How lent words are read as disjuncts: as many as may be held, four variables to each. Any words say something.
use Rattle.std.specs.Prelude.{cond, List, map, Option, ℕ, ◌+◌, ◌*◌, eqb, get_or, take, drop}
use Rattle.laws.specs.Lists.{numbers}
use Rattle.laws.specs.Sets.{Grown}
use Rattle.places.specs.Counts.{grown_of}
use Rattle.meaning.specs.Labels.{Entry, bound, free, Disjunct}
use Rattle.meaning.specs.Room.{exclusion_limit, held_limit}
use Rattle.meaning.specs.Limits.{variable_limit}

-- the words of a variable: a code, and its value or room for its exclusions; and those of a disjunct
abbrev pub slot_words : ℕ
slot_words = 1 + exclusion_limit

abbrev pub disjunct_words : ℕ
disjunct_words = variable_limit * slot_words

-- the code of a bound variable, above any number of exclusions, which is the code of a free one
abbrev pub bound_code : ℕ
bound_code = 1 + exclusion_limit

-- what the words from `at` on say of a variable: that it is bound, and its value; or how many of the words behind are its exclusions
unfoldable pub entry_at : List ℕ → ℕ → Entry
entry_at w at = let code = get_or w at 0 in cond (eqb code bound_code) (bound (get_or w (at + 1) 0)) (free (take code (take exclusion_limit (drop (at + 1) w))))

-- of all variables of all disjuncts
unfoldable pub entries_in : List ℕ → List Entry
entries_in w = map (λ j. entry_at w (j * slot_words)) (numbers 0 (held_limit * variable_limit))

-- four variables to a disjunct
unfoldable pub disjuncts_in : List ℕ → List Disjunct
disjuncts_in w = map (λ i. map (λ v. entry_at w (i * disjunct_words + v * slot_words)) (numbers 0 variable_limit)) (numbers 0 held_limit)

-- what a count and the words say: the set of so many, or that there is no room
abbrev pub grown_in : Option ℕ → List ℕ → Grown Disjunct
grown_in r w = grown_of r (disjuncts_in w)
