-- `pool_in` meets its contract: after i turns the first i disjuncts are what their words say, the others free.
use mathlib.Core.Path.{◌≡◌}
use mathlib.Core.List.{[], map}
use Prim.Native.Nat.{◌-◌, ◌≤◌}
use lib.ListN.{length, take}
use Rattle.laws.specs.Parts.{pad}
use Rattle.disjunct.specs.Disjuncts.{disjunct_of}
use Rattle.blocks.specs.Groups.{groups}
use Rattle.blocks.specs.StateBlock.{disjunct_in}
use Rattle.state_block.proofs.pool_in.Given as goal

abbrev pub invariant-loop-i : goal.invariant-loop-i
invariant-loop-i l = (l.i ≤ l.n) × (length l.pool ≡ 128) × (l.pool ≡ pad 128 (disjunct_of []) (take l.i (map disjunct_in (groups 28 128 l.words))))
