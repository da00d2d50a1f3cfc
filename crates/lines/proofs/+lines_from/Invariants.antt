-- there is room for ever fewer symbols
use Prim.Native.Nat.{◌-◌}
use Rattle.lines.proofs.+lines_from.Given as goal

abbrev pub decreases-lines_from : goal.decreases-lines_from
decreases-lines_from l = 16 - l.t.count
