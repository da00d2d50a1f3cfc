-- `sound_state::ascends` meets its contract: the numbers from the one before i on ascend just if all do.
use mathlib.Core.Path.{◌≡◌}
use Prim.Native.Nat.{compare, ◌-◌, ◌≤◌}
use lib.ListN.{length, take}
use Rattle.sound.proofs.Loops.{Rises}
use Rattle.sound_state.proofs.ascends.Given as goal

abbrev pub invariant-loop-i : goal.invariant-loop-i
invariant-loop-i l = (1 ≤ l.i) × (length l.xs ≡ 6) × Rises compare (take l.n l.xs) l.i
