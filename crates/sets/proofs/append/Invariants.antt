-- `sets::append` meets its contract. The loop's invariant: the first i have been written.
use Rattle.sets.proofs.Turns.{Appended}
use Rattle.sets.proofs.append.Given as goal

abbrev pub invariant-loop-i : goal.invariant-loop-i
invariant-loop-i l = Appended l.initial.words l.at l.from l.i l.words
