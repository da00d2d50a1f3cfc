-- `places::shift` meets its contract. The loop's invariant: the elements from i on have been moved up.
use Rattle.std.proofs.Common.{◌≤◌}
use Rattle.laws.proofs.Turns.{Moved}
use Rattle.places.proofs.shift.Given as goal

abbrev pub invariant-loop-i : goal.invariant-loop-i
invariant-loop-i g l = (l.k ≤ l.i) × Moved l.n (g.P.Places.list l.initial.words) l.i (g.P.Places.list l.words)
