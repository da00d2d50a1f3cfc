-- `collect::collect` meets its contract: what is found so far with what the positions ahead give is what the event gives.
use mathlib.Core.Path.{◌≡◌}
use mathlib.Core.Bool.{true}
use Prim.Native.Nat.{◌≤◌}
use Rattle.std.proofs.Common.{IfSome}
use Rattle.meaning.specs.Rows.{row_limit}
use Rattle.meaning.specs.Events.{Event}
use Rattle.bounded.specs.Bounded.{rows_ascend}
use Rattle.rows.specs.Valuations.{rows_grown}
use Rattle.collect.specs.Yields.{yield_in}
use Rattle.collect.proofs.Symbols.{Agree, yield_ahead, yield_of}
use Rattle.collect.proofs.collect.Given as goal

abbrev pub invariant-loop-i : goal.invariant-loop-i
invariant-loop-i l =
    IfSome l.r.rows (λ m. m ≤ row_limit) × (rows_ascend (rows_grown l.r.rows l.out) ≡ true)
    × ((e : Event) → Agree l.book l.cs e → yield_ahead l.book l.begins l.n l.at l.held e l.i (yield_in l.r l.out) ≡ yield_of l.book l.begins l.n l.at l.held e)
