-- `ordering::exclusions` meets its contract: the exclusion lists from variable i on compare as all of them do.
use mathlib.Core.Path.{◌≡◌}
use Prim.Native.Nat.{compare}
use Rattle.laws.specs.Order.{lex}
use Rattle.meaning.specs.Labels.{exclusions}
use Rattle.disjunct.proofs.Slots.{from}
use Rattle.ordering.proofs.exclusions.Given as goal

abbrev pub invariant-loop-i : goal.invariant-loop-i
invariant-loop-i l = from (lex compare) exclusions l.a l.b l.i ≡ from (lex compare) exclusions l.a l.b 0
