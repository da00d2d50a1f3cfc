-- The measure is the bound on calls that the contracts name: it falls from each reader to the next, and where one begins again it has
-- passed a byte or opened a parenthesis.
use Prim.Native.Nat.{◌+◌}
use Rattle.form.specs.Parse.{enough}
use Rattle.grammar.proofs.+alternation_atom_sequence.Given as goal

abbrev pub decreases-alternation : goal.decreases-alternation
decreases-alternation l = enough l.depth l.p + 3

abbrev pub decreases-atom : goal.decreases-atom
decreases-atom l = enough l.depth l.p + 1

abbrev pub decreases-sequence : goal.decreases-sequence
decreases-sequence l = enough l.depth l.p + 2
