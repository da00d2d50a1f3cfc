-- `constraint::consistent` meets its contract: the demands from i on decide, as long as each one passed agrees with those behind it.
use mathlib.Core.Path.{◌≡◌}
use lib.ListN.{drop}
use Rattle.meaning.specs.Events as Events
use Rattle.demand.specs.Constraints.{demands_in}
use Rattle.constraint.proofs.consistent.Given as goal

abbrev pub invariant-loop-i : goal.invariant-loop-i
invariant-loop-i l = Events.consistent (drop l.i (demands_in l.c)) ≡ Events.consistent (demands_in l.c)
