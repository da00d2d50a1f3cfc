-- there is room for ever fewer variables
use Prim.Native.Nat.{◌-◌}
use Rattle.lines.proofs.+variables_from.Given as goal

abbrev pub decreases-variables_from : goal.decreases-variables_from
decreases-variables_from l = 4 - l.t.variables
