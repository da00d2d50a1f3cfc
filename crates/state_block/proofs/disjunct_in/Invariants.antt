-- `disjunct_in` meets its contract: after i turns the first i slots are what their words say, the others free.
use mathlib.Core.Path.{◌≡◌}
use mathlib.Core.List.{[], map}
use Prim.Native.Nat.{◌-◌, ◌≤◌}
use lib.ListN.{take}
use Rattle.laws.specs.Parts.{pad}
use Rattle.meaning.specs.Labels.{free}
use Rattle.slot.specs.Slots.{slot_of}
use Rattle.blocks.specs.Groups.{groups}
use Rattle.blocks.specs.StateBlock.{slot_in}
use Rattle.state_block.proofs.disjunct_in.Given as goal

abbrev pub invariant-loop-i : goal.invariant-loop-i
invariant-loop-i l = (l.i ≤ 4) × (l.d.vars ≡ pad 4 (slot_of (free [])) (take l.i (map slot_in (groups 7 4 l.words))))
