-- `packed::put` meets its contract. The loop's invariant: the variables so far have been written, and no others.
use Rattle.disjunct.specs.Disjuncts.{view_disjunct}
use Rattle.packed.proofs.Words.{Replaced}
use Rattle.packed.proofs.put.Given as goal

abbrev pub invariant-loop-v : goal.invariant-loop-v
invariant-loop-v l = Replaced l.initial.words l.words l.i (view_disjunct l.fn.d) l.v
