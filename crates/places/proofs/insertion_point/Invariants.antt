-- `places::insertion_point` meets its contract. The loop's invariant: x is before each of the first n from i on.
use Rattle.laws.proofs.Turns.{Passed}
use Rattle.places.proofs.insertion_point.Given as goal

abbrev pub invariant-loop-i : goal.invariant-loop-i
invariant-loop-i g l = Passed g.P.Places.order l.n (g.P.Places.list l.words) (g.P.Places.view l.x) l.i
