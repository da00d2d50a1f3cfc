-- `matching::all_bits` meets its contract: the loop keeps what the variables from v on say.
use mathlib.Core.Path.{◌≡◌}
use Prim.Native.Nat.{◌-◌}
use Rattle.laws.specs.Bits.{bit}
use Rattle.laws.specs.Lists.{all, numbers}
use Rattle.form.specs.Reading.{all_bits}
use Rattle.matching.proofs.all_bits.Given as goal

abbrev pub invariant-loop-v : goal.invariant-loop-v
invariant-loop-v l = all (λ w. bit w l.m) (numbers l.v (l.n - l.v)) ≡ all_bits l.n l.m
