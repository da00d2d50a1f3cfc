-- The rows of an event: document 01, "Rows come from the step sets of ending positions, never from skip sets."
use Rattle.std.specs.Prelude.{Bool, ◌&&◌, List, map}
use Prim.Native.Nat.{ℕ, ◌+◌, ◌*◌, compare, Ordering}
use Rattle.laws.specs.Lists.{any, keep, gather}
use Rattle.laws.specs.Order.{lex}
use Rattle.laws.specs.Sets.{set_of}
use Rattle.meaning.specs.Limits.{symbol_limit}
use Rattle.meaning.specs.Events.{Event, Valuation, constraint_of}
use Rattle.meaning.specs.Book.{Book, positions, ends_at, symbol_of}
use Rattle.meaning.specs.Labels.{Entry, bound, free, Disjunct, Held, is_free, meets, met, sources, step_set}
use Rattle.meaning.specs.Room.{held_limit}

-- "Rows of one event ascend by the first differing value; the comparison recurses on the variables left."
abbrev pub compare_valuations : Valuation → Valuation → Ordering
compare_valuations = lex compare

-- "an event has at most 16 × 129 rows"
abbrev pub row_limit : ℕ
row_limit = symbol_limit * (held_limit + 1)

-- the values of a disjunct that leaves no variable free
abbrev pub value_of : Entry → ℕ
value_of (bound a) = a
value_of (free xs) = 0

-- the row that a disjunct gives
abbrev pub valuation_of : Disjunct → Valuation
valuation_of D = map value_of D

module _ (b : Book) (held : List Held) (e : Event) where
  -- the rows, ascending and once each
  unfoldable pub rows : List Valuation
  rows = set_of compare_valuations (gather (λ q. map valuation_of (step_set b held e q)) (keep (ends_at b) (positions b)))

  -- "a row that would leave a variable free" (answer 9): some ending position and some disjunct of its sources whose
  -- meeting succeeds and leaves a variable free
  unfoldable pub leaves_free : Bool
  leaves_free =
      any (λ q. let c = constraint_of (symbol_of b q) e in any (λ D. meets D c && any is_free (met D c)) (sources b held q))
      (keep (ends_at b) (positions b))
