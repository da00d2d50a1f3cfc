-- `step::add_sources` meets its contract. The loop's invariant: the set that is wanted is that of the first m and of the sources left.
use lib.ListN.{take}
use Rattle.std.proofs.Common.{Some}
use Rattle.demand.specs.Constraints.{view_constraint}
use Rattle.packed.specs.Sets.{disjuncts_in}
use Rattle.step.proofs.Sources.{Growing}
use Rattle.step.proofs.add_sources.Given as goal

abbrev pub invariant-loop-i : goal.invariant-loop-i
invariant-loop-i l = Growing (view_constraint (Some l.c)) l.q l.masks l.held l.n (take l.count (disjuncts_in l.initial.out)) l.out l.m l.i
