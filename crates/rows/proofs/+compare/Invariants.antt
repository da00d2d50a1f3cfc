-- `rows::compare`: ever fewer values are left.
use Prim.Native.Nat.{◌-◌}
use Rattle.rows.proofs.+compare.Given as goal

abbrev pub decreases-compare : goal.decreases-compare
decreases-compare l = 4 - l.k
