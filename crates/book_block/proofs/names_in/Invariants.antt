-- `names_in` meets its contract: after i turns the first i names are those of the first i groups of words.
use mathlib.Core.Path.{◌≡◌}
use mathlib.Core.List.{map}
use Prim.Native.Nat.{◌-◌, ◌≤◌}
use lib.ListN.{length, take}
use Rattle.blocks.specs.Groups.{groups}
use Rattle.blocks.specs.BookBlock.{name_in}
use Rattle.book_block.proofs.names_in.Given as goal

abbrev pub invariant-loop-i : goal.invariant-loop-i
invariant-loop-i l = (l.i ≤ 20) × (length l.names ≡ 20) × (take l.i l.names ≡ map name_in (take l.i (groups 2 20 l.words)))
