-- `table_in` meets its contract: after i turns the first i symbols are those of the first i groups of words.
use native.Mathlib.Omega.{arith}
use borrow.Author.Rules.{rules}
use Rattle.blocks.specs.BookBlock.{symbol_in}
use Rattle.blocks.proofs.Groups.{groups_more, groups_all}
use Rattle.book_block.proofs.table_in.Goals as goal

pub loop-i-preserved : goal.loop-i-preserved
loop-i-preserved c =
    let w = c.args.words.now in
    let loop = c.loop-i in (
      search rules,
      search rules,
      groups_more symbol_in 10 16 w loop.i loop.symbols (omega arith) loop.invariant.1 loop.invariant.2 c.symbol_in.ensures,
    )

pub returns : goal.returns
returns c =
    let loop = c.loop-i in
    groups_all symbol_in 10 16 c.args.words.now loop.i loop.symbols (omega arith) loop.invariant.1 loop.invariant.2
