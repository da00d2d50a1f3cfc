-- `judge_all` meets its contract: after k turns the first k books do not refuse, and their rows are counted.
use mathlib.Core.Path.{◌≡◌}
use Prim.Native.Nat.{◌*◌, ◌≤◌}
use Rattle.meaning.specs.Rows.{row_limit}
use Rattle.record.specs.Records.{event_in}
use Rattle.parts.specs.Parts.{rows_together}
use Rattle.parts.specs.SetBlock.{parts_in}
use Rattle.parts.proofs.Blocks.{First}
use Rattle.lent_set.proofs.judge_all.Given as goal

abbrev pub invariant-loop-k : goal.invariant-loop-k
invariant-loop-k l =
    (l.k ≤ l.count) × (l.rows ≡ rows_together (event_in l.bytes) (parts_in l.books l.states l.bytes l.k)) × (l.rows ≤ l.k * row_limit) × First l.books l.states l.bytes l.count l.k
