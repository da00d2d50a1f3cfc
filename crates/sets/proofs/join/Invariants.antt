-- `sets::join` meets its contract. The loop's invariant: the first i have been put among the others, and there is room so far.
use Rattle.sets.proofs.Turns.{Joined}
use Rattle.sets.proofs.join.Given as goal

abbrev pub invariant-loop-i : goal.invariant-loop-i
invariant-loop-i l = Joined l.initial.words l.m l.from l.k l.i l.n l.words
