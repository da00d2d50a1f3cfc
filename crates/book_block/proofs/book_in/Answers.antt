-- `book_in` meets its contract: the book that is held, or the empty one where the first word is not the layout's number.
use borrow.Author.Tests.{eq-eqb, ne_eqb}
use lib.ListN.{get_or}
use Rattle.blocks.specs.BookBlock.{book_in}
use Rattle.book_block.proofs.book_in.Goals as goal

pub returns-then-words-eq-LAYOUT : goal.returns-then-words-eq-LAYOUT
unfolding book_in
returns-then-words-eq-LAYOUT c = rw (eq-eqb (get_or c.args.words.now 0 0) 1001 c.if-words-eq-LAYOUT.true) c.held.ensures

pub returns-else-words-eq-LAYOUT : goal.returns-else-words-eq-LAYOUT
unfolding book_in
returns-else-words-eq-LAYOUT c = rw (ne_eqb (get_or c.args.words.now 0 0) 1001 c.if-words-eq-LAYOUT.false) c.empty_book.ensures
