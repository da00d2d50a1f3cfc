-- Two demands are counted, on the variables 0 and 1.
use Rattle.std.proofs.Common.{refl, arith}
use Rattle.demand.specs.Constraints.{demands_in}
use Rattle.cases.proofs.parts.demanding.Goals as goal

pub returns : goal.returns
unfolding demands_in
returns c = record { few = omega arith; within = refl }
