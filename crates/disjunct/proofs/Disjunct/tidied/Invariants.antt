-- `Disjunct::tidied` meets its contract: the first i variables, coded.
use mathlib.Core.Path.{◌≡◌}
use lib.ListN.{take}
use Rattle.disjunct.specs.Disjuncts.{view_disjunct, disjunct_of}
use Rattle.disjunct.proofs.Disjunct.tidied.Given as goal

abbrev pub invariant-loop-i : goal.invariant-loop-i
invariant-loop-i l = l.d ≡ disjunct_of (take l.i (view_disjunct l.self))
