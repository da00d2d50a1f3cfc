-- `collect::add_sources` meets its contract: what is found with the meetings of the disjuncts ahead is what all of them give.
use mathlib.Core.Path.{◌≡◌}
use mathlib.Core.Bool.{true}
use Prim.Native.Nat.{◌≤◌}
use Rattle.std.proofs.Common.{Some, IfSome}
use Rattle.meaning.specs.Rows.{row_limit}
use Rattle.bounded.specs.Bounded.{rows_ascend, yield_with}
use Rattle.demand.specs.Constraints.{view_constraint}
use Rattle.packed.specs.Sets.{disjuncts_in}
use Rattle.rows.specs.Valuations.{rows_grown}
use Rattle.collect.specs.Yields.{yield_in}
use Rattle.collect.proofs.Turns.{ahead}
use Rattle.collect.proofs.add_sources.Given as goal

abbrev pub invariant-loop-i : goal.invariant-loop-i
invariant-loop-i l =
    IfSome l.r.rows (λ m. m ≤ row_limit) × (rows_ascend (rows_grown l.r.rows l.out) ≡ true)
    × (yield_with l.v (view_constraint (Some l.c)) (ahead l.q l.masks (disjuncts_in l.held) l.n l.i) (yield_in l.r l.out)
    ≡ yield_with l.v (view_constraint (Some l.c)) (ahead l.q l.masks (disjuncts_in l.held) l.n 0) (yield_in l.initial.r l.initial.out))
