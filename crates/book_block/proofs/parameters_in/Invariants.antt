-- `parameters_in` meets its contract: after i turns the first i parameters are those of the first i groups of words.
use mathlib.Core.Path.{◌≡◌}
use mathlib.Core.List.{map}
use Prim.Native.Nat.{◌-◌, ◌≤◌}
use lib.ListN.{length, take}
use Rattle.blocks.specs.Groups.{groups}
use Rattle.blocks.specs.BookBlock.{parameter_in}
use Rattle.book_block.proofs.parameters_in.Given as goal

abbrev pub invariant-loop-i : goal.invariant-loop-i
invariant-loop-i l = (l.i ≤ 4) × (length l.parameters ≡ 4) × (take l.i l.parameters ≡ map parameter_in (take l.i (groups 2 4 l.words)))
