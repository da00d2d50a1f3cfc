-- `constraint::agrees_from` meets its contract: the demands from j on decide, as long as those passed agree.
use mathlib.Core.Path.{◌≡◌}
use Prim.Native.Nat.{suc}
use lib.ListN.{get_or}
use Rattle.demand.specs.Constraints.{view_demand, demands_in, no_demand}
use Rattle.constraint.proofs.Steps.{agrees_from}
use Rattle.constraint.proofs.agrees_from.Given as goal

abbrev pub invariant-loop-j : goal.invariant-loop-j
invariant-loop-j l = agrees_from l.c (view_demand l.d) l.j ≡ agrees_from l.c (get_or (demands_in l.c) l.i no_demand) (suc l.i)
