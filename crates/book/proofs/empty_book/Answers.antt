-- `book::empty_book` meets its contract, by the empty table and the empty fragment.
use mathlib.Core.Path.{◌∙◌}
use Rattle.table.specs.Tables.{table_of}
use Rattle.piece.specs.Pieces.{no_piece}
use Rattle.book.specs.Books.{empty_book}
use Rattle.book.proofs.empty_book.Goals as goal

pub returns : goal.returns
unfolding empty_book table_of no_piece
returns c = c.book_of.ensures ∙ rw (c.nothing.ensures, c.no_table.ensures)
