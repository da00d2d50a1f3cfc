-- `watch_read` meets its contract: the words of an accepted book, zeros of a refused one.
use mathlib.Core.Path.{ap, ◌∙◌}
use borrow.Author.Rules.{rules}
use lib.ListN.{length}
use Rattle.book_block.specs.Fits.{book_fits}
use Rattle.book_block.proofs.Fits.{read_fits}
use Rattle.lent.proofs.Left.{read_accepted, read_refused}
use Rattle.lent.proofs.watch_read.Goals as goal

pub put_book-requires : goal.put_book-requires
put_book-requires c =
    let start = c.args in
    let read = c.read-r in
    (search rules, ap (λ r. book_fits r.book) read.ensures.0 ∙ read_fits start.text.now)

pub returns-then-n-eq0 : goal.returns-then-n-eq0
returns-then-n-eq0 c =
    let start = c.args in
    let read = c.read-r in (
      read_accepted start.text.now read.result read.ensures.0 _ _ c.put_book.new.words
          c.number_of-n.ensures c.place_of.ensures
          c.if-n-eq0.true c.put_book.ensures,
      read.ensures.1,
    )

pub returns : goal.returns
returns c =
    let start = c.args in
    let read = c.read-r in (
      read_refused start.text.now read.result read.ensures.0 _ _ (length start.book.now) c.fill.new.self
          c.number_of-n.ensures c.place_of.ensures
          c.if-n-eq0.false (search rules) (c.fill.ensures.after (λ y e. e)),
      read.ensures.1,
    )
