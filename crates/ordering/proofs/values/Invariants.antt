-- `ordering::values` meets its contract: the values from variable i on compare as all of them do.
use mathlib.Core.Path.{◌≡◌}
use Prim.Native.Nat.{compare}
use Rattle.meaning.specs.Labels.{value_key}
use Rattle.disjunct.proofs.Slots.{from}
use Rattle.ordering.proofs.values.Given as goal

abbrev pub invariant-loop-i : goal.invariant-loop-i
invariant-loop-i l = from compare value_key l.a l.b l.i ≡ from compare value_key l.a l.b 0
