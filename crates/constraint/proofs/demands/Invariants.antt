-- `constraint::demands` meets its contract: the demands of the places passed, before those of the places ahead.
use Rattle.constraint.proofs.Steps.{Gathered}
use Rattle.constraint.proofs.demands.Given as goal

abbrev pub invariant-loop-i : goal.invariant-loop-i
invariant-loop-i l = Gathered l.y l.e l.r.count l.i l.r.demands
