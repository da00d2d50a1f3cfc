-- How lent words are read as valuations: a word to each of four variables, zero beyond the book's; as many as an event may have rows.
use Rattle.std.specs.Prelude.{◌≡◌, List, map, Option, ℕ, ◌+◌, ◌*◌, get_or, length}
use Rattle.laws.specs.Lists.{numbers}
use Rattle.laws.specs.Sets.{Grown}
use Rattle.places.specs.Counts.{grown_of}
use Rattle.laws.proofs.Arrays.{length_of}
use Rattle.meaning.specs.Events.{Valuation}
use Rattle.meaning.specs.Limits.{variable_limit}
use Rattle.meaning.specs.Rows.{row_limit}

unfoldable pub valuations_in : List ℕ → List Valuation
valuations_in w = map (λ i. map (λ v. get_or w (i * variable_limit + v) 0) (numbers 0 variable_limit)) (numbers 0 row_limit)

-- there are as many as an event may have rows
pub valuations_long : (w : List ℕ) → length (valuations_in w) ≡ row_limit
unfolding valuations_in
valuations_long w = length_of (λ i. map (λ v. get_or w (i * variable_limit + v) 0) (numbers 0 variable_limit)) row_limit

-- what a count and the words say: so many rows, or that there is no room
abbrev pub rows_grown : Option ℕ → List ℕ → Grown Valuation
rows_grown r w = grown_of r (valuations_in w)
