-- `skip::label` meets its contract: what is put so far, before what is picked ahead.
use mathlib.Core.Path.{◌≡◌}
use mathlib.Core.List.{◌++◌}
use Prim.Native.Nat.{◌≤◌}
use lib.Dec.{eqb}
use lib.ListN.{take}
use Rattle.bounded.specs.Bounded.{pick}
use Rattle.packed.specs.Sets.{disjuncts_in}
use Rattle.skip.proofs.Picks.{ahead}
use Rattle.skip.proofs.label.Given as goal

abbrev pub invariant-loop-i : goal.invariant-loop-i
invariant-loop-i l =
    let ds = disjuncts_in l.held in
    (l.m ≤ l.i) × (take l.m (disjuncts_in l.out) ++ ahead l.p l.at ds l.n l.i ≡ pick (eqb l.p) (take l.n l.at) (take l.n ds))
