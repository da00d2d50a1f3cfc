-- Theorem `sampled`: every pattern of the table of samples has the flag, the masks, the symbols and the follows that stand there, by
-- computation from the definitions alone. The module's name has the prover come to it first.
use mathlib.Core.Path.{◌≡◌, refl}
use mathlib.Core.List.{map}
use Rattle.laws.specs.Bits.{bit, single, join, meet}
use Rattle.pattern.specs.Samples.{outcome, wanted, table}

pub sampled : map outcome table ≡ map wanted table
unfolding bit single join meet table
sampled = refl
