-- `put_table` meets its contract: after i turns the words of the first i symbols stand over the front of what was lent.
use mathlib.Core.Path.{◌≡◌}
use Prim.Native.Nat.{◌-◌, ◌≤◌}
use lib.ListN.{length, take}
use Rattle.laws.specs.Lists.{gather}
use Rattle.laws.specs.Parts.{front}
use Rattle.blocks.specs.BookBlock.{symbol_words}
use Rattle.book_block.proofs.put_table.Given as goal

abbrev pub invariant-loop-i : goal.invariant-loop-i
invariant-loop-i l = (l.i ≤ 16) × (length l.words ≡ length l.initial.words) × (l.words ≡ front (gather symbol_words (take l.i l.symbols)) l.initial.words)
