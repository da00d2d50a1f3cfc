-- `skip::exclude_each` meets its contract. The loop's invariant: the set that is wanted is that of the first m and of what the demands left give.
use lib.ListN.{take}
use Rattle.disjunct.specs.Disjuncts.{view_disjunct}
use Rattle.packed.specs.Sets.{disjuncts_in}
use Rattle.skip.proofs.Demands.{Excluding}
use Rattle.skip.proofs.exclude_each.Given as goal

abbrev pub invariant-loop-i : goal.invariant-loop-i
invariant-loop-i l = Excluding l.c (view_disjunct l.d) (take l.count (disjuncts_in l.initial.out)) l.out l.m l.i
