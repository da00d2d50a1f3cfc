-- `put_pool` meets its contract: after i turns the groups of the first i places stand over the front of what was lent.
use mathlib.Core.Path.{◌≡◌}
use Prim.Native.Nat.{◌-◌, ◌≤◌}
use lib.ListN.{length, take}
use Rattle.laws.specs.Lists.{gather}
use Rattle.laws.specs.Parts.{front}
use Rattle.blocks.specs.StateBlock.{group_words}
use Rattle.state_block.proofs.put_pool.Given as goal

abbrev pub invariant-loop-i : goal.invariant-loop-i
invariant-loop-i l =
    (l.i ≤ l.n) × (length l.words ≡ length l.initial.words) × (l.words ≡ front (gather group_words (take l.i l.pool)) l.initial.words)
