-- `step::follow_masks` meets its contract. The loop's invariant: the first i masks are those of the first i positions.
use mathlib.Core.Path.{◌≡◌}
use mathlib.Core.List.{map}
use Prim.Native.Nat.{◌-◌}
use lib.ListN.{length, take, get_or}
use Rattle.step.proofs.follow_masks.Given as goal

abbrev pub invariant-loop-i : goal.invariant-loop-i
invariant-loop-i l = take l.i l.masks ≡ map (λ p. get_or l.follows (p - 1) 0) (take l.i l.at)
