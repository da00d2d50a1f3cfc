-- `Disjunct::meet` meets its contract: what is bound so far, met with the demands ahead, is the disjunct met with all demands.
use mathlib.Core.Path.{◌≡◌}
use lib.ListN.{length, drop}
use Rattle.meaning.specs.Labels.{meets_all, met_all}
use Rattle.demand.specs.Constraints.{demands_in}
use Rattle.disjunct.specs.Disjuncts.{view_disjunct}
use Rattle.disjunct.proofs.Disjunct.meet.Given as goal

abbrev pub invariant-loop-i : goal.invariant-loop-i
invariant-loop-i l =
    let rest = drop l.i (demands_in l.constraint) in
    let whole = demands_in l.constraint in
    (length l.d.vars ≡ 4)
    × (meets_all (view_disjunct l.d) rest ≡ meets_all (view_disjunct l.fn.self) whole)
    × (met_all (view_disjunct l.d) rest ≡ met_all (view_disjunct l.fn.self) whole)
