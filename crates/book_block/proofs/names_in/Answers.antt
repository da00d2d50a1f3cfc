-- `names_in` meets its contract: after i turns the first i names are those of the first i groups of words.
use native.Mathlib.Omega.{arith}
use borrow.Author.Rules.{rules}
use Rattle.blocks.specs.BookBlock.{name_in}
use Rattle.blocks.proofs.Groups.{groups_more, groups_all}
use Rattle.book_block.proofs.names_in.Goals as goal

pub loop-i-preserved : goal.loop-i-preserved
loop-i-preserved c =
    let w = c.args.words.now in
    let loop = c.loop-i in (
      search rules,
      search rules,
      groups_more name_in 2 20 w loop.i loop.names (omega arith) loop.invariant.1 loop.invariant.2 c.name_in.ensures,
    )

pub returns : goal.returns
returns c =
    let loop = c.loop-i in
    groups_all name_in 2 20 c.args.words.now loop.i loop.names (omega arith) loop.invariant.1 loop.invariant.2
