-- The measure is the room that is left.
use Prim.Native.Nat.{◌-◌}
use Rattle.lines.proofs.+arguments_from.Given as goal

abbrev pub decreases-arguments_from : goal.decreases-arguments_from
decreases-arguments_from l = 4 - l.y.count
