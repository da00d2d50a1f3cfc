-- `put_group` meets its contract: after i turns the words of the first i variables stand over the front of what was lent.
use mathlib.Core.Path.{◌≡◌}
use Prim.Native.Nat.{◌-◌, ◌≤◌}
use lib.ListN.{length, take}
use Rattle.laws.specs.Lists.{gather}
use Rattle.laws.specs.Parts.{front}
use Rattle.disjunct.specs.Disjuncts.{view_disjunct}
use Rattle.blocks.specs.StateBlock.{entry_words}
use Rattle.state_block.proofs.put_group.Given as goal

abbrev pub invariant-loop-i : goal.invariant-loop-i
invariant-loop-i l =
    (l.i ≤ 4) × (length l.words ≡ length l.initial.words) × (l.words ≡ front (gather entry_words (take l.i (view_disjunct l.d))) l.initial.words)
