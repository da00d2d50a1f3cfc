-- `sound_state::sound_order` meets its contract: the held disjuncts from the one before i on ascend just if all do.
use mathlib.Core.Path.{◌≡◌}
use Prim.Native.Nat.{◌-◌, ◌≤◌}
use lib.ListN.{length}
use Rattle.meaning.specs.Labels.{compare_held}
use Rattle.state.specs.States.{held_first}
use Rattle.sound.proofs.Loops.{Rises}
use Rattle.sound_state.proofs.sound_order.Given as goal

abbrev pub invariant-loop-i : goal.invariant-loop-i
invariant-loop-i l =
    (1 ≤ l.i) × (length l.s.positions ≡ 128) × (length l.s.pool ≡ 128) × Rises compare_held (held_first l.variables l.s) l.i
