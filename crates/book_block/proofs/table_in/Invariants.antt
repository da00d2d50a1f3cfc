-- `table_in` meets its contract: after i turns the first i symbols are those of the first i groups of words.
use mathlib.Core.Path.{◌≡◌}
use mathlib.Core.List.{map}
use Prim.Native.Nat.{◌-◌, ◌≤◌}
use lib.ListN.{length, take}
use Rattle.blocks.specs.Groups.{groups}
use Rattle.blocks.specs.BookBlock.{symbol_in}
use Rattle.book_block.proofs.table_in.Given as goal

abbrev pub invariant-loop-i : goal.invariant-loop-i
invariant-loop-i l = (l.i ≤ 16) × (length l.symbols ≡ 16) × (take l.i l.symbols ≡ map symbol_in (take l.i (groups 10 16 l.words)))
