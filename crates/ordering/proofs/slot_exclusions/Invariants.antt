-- `ordering::slot_exclusions` meets its contract. The loop's invariant: the lists compare as what is ahead of them does.
use mathlib.Core.Path.{◌≡◌}
use Prim.Native.Nat.{compare}
use lib.ListN.{take}
use Rattle.laws.specs.Order.{lex}
use Rattle.slot.proofs.Insertions.{rest}
use Rattle.ordering.proofs.slot_exclusions.Given as goal

abbrev pub invariant-loop-i : goal.invariant-loop-i
invariant-loop-i l = lex compare (take l.m l.a.excluded) (take l.n l.b.excluded) ≡ lex compare (rest l.a.excluded l.m l.i) (rest l.b.excluded l.n l.i)
