-- `state::load` meets its contract. The loop's invariant: the first i places stand in the lent words.
use Rattle.state.proofs.Pools.{Loaded}
use Rattle.state.proofs.load.Given as goal

abbrev pub invariant-loop-i : goal.invariant-loop-i
invariant-loop-i l = Loaded l.variables l.d-items l.words l.i
