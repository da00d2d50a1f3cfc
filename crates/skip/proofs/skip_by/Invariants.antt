-- `skip::skip_by` meets its contract: what has grown so far, and what the disjuncts ahead give into it.
use mathlib.Core.Path.{◌≡◌}
use mathlib.Core.Bool.{true}
use Prim.Native.Nat.{◌≤◌}
use lib.ListN.{take, drop}
use Rattle.laws.specs.Lists.{gather}
use Rattle.laws.specs.Order.{ascending}
use Rattle.laws.specs.Sets.{grown}
use Rattle.meaning.specs.Labels.{compare_disjuncts, skip_one}
use Rattle.bounded.specs.Bounded.{grow_few, skipped}
use Rattle.demand.specs.Constraints.{view_constraint}
use Rattle.packed.specs.Sets.{disjuncts_in}
use Rattle.skip.proofs.skip_by.Given as goal

abbrev pub invariant-loop-i : goal.invariant-loop-i
invariant-loop-i l =
    let ds = take l.n (disjuncts_in l.from) in
    let g = grown (take l.m (disjuncts_in l.out)) in
    (l.m ≤ 128) × (ascending compare_disjuncts (take l.m (disjuncts_in l.out)) ≡ true)
    × (grow_few (gather (skip_one (view_constraint l.c)) (drop l.i ds)) g ≡ skipped (view_constraint l.c) ds)
