-- `constraint::constraints` meets its contract: the constraints of the symbols passed stand at the front of the array.
use Rattle.constraint.proofs.Steps.{Filled}
use Rattle.constraint.proofs.constraints.Given as goal

abbrev pub invariant-loop-i : goal.invariant-loop-i
invariant-loop-i l = Filled l.e l.table l.i l.r
