-- `skip::skip_through` meets its contract: what is held so far, taken through the constraints ahead.
use mathlib.Core.Path.{◌≡◌}
use mathlib.Core.Bool.{true}
use mathlib.Core.List.{map}
use Prim.Native.Nat.{◌≤◌}
use lib.ListN.{take, drop}
use Rattle.laws.specs.Order.{ascending}
use Rattle.meaning.specs.Labels.{compare_disjuncts}
use Rattle.bounded.specs.Bounded.{skipped_through}
use Rattle.demand.specs.Constraints.{view_constraint}
use Rattle.packed.specs.Sets.{disjuncts_in}
use Rattle.skip.proofs.skip_through.Given as goal

abbrev pub invariant-loop-symbol : goal.invariant-loop-symbol
invariant-loop-symbol l =
    let ds = take l.m (disjuncts_in l.words) in
    let all = map view_constraint (take l.count l.cs) in
    (l.m ≤ 128) × (ascending compare_disjuncts ds ≡ true)
    × (skipped_through (drop l.symbol all) ds ≡ skipped_through all (take l.n (disjuncts_in l.initial.words)))
