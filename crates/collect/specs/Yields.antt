-- What is collected of an event, as a count and a flag with lent words say it. No public contract and no theorem cites this page: a buyer may
-- pass it over.
use Rattle.std.specs.Prelude.{List, ℕ}
use Rattle.bounded.specs.Bounded.{Yield}
use Rattle.rows.specs.Valuations.{rows_grown}
use Rattle.collect.specs.declared.Collected.{Collected}

-- the rows that the words begin with, and the flag
abbrev pub yield_in : Collected → List ℕ → Yield
yield_in r w = record { rows = rows_grown r.rows w; free = r.free }
