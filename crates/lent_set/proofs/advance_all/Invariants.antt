-- `advance_all` meets its contract: after k turns the first k books have taken the event, their states are stored and their rows written.
use mathlib.Core.Path.{◌≡◌}
use Prim.Native.Nat.{◌≤◌}
use lib.ListN.{length}
use Rattle.lent_set.proofs.Taken.{Taken}
use Rattle.lent_set.proofs.advance_all.Given as goal

abbrev pub invariant-loop-k : goal.invariant-loop-k
invariant-loop-k l =
    (l.k ≤ l.count) × (length l.states ≡ length l.initial.states) × (length l.rows ≡ length l.initial.rows) × Taken l.books l.initial.states l.bytes l.initial.rows l.place l.k l.states l.rows l.next
