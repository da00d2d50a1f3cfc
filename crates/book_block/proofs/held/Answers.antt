-- `held` meets its contract: each part of the book is read from where it begins.
use Rattle.book_block.proofs.Wholes.{parts_held}
use Rattle.book_block.proofs.held.Goals as goal

pub returns : goal.returns
returns c =
    let w = c.args.words.now in
    parts_held w c.names_in.ensures c.table_in.ensures c.numbers_in.ensures c.numbers_in-2.ensures
