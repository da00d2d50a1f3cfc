-- `state::store` meets its contract. The loop's invariant: the first i places are taken, the others free.
use Rattle.state.proofs.Pools.{Stored}
use Rattle.state.proofs.store.Given as goal

abbrev pub invariant-loop-i : goal.invariant-loop-i
invariant-loop-i l = Stored l.number l.at l.words l.n l.s l.i
