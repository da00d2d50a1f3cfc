-- What the matcher's parts say of a book besides its view: its counts within its arrays, which they ask of their callers, and its view with another set
-- of beginning positions. No public contract and no theorem cites this page: a buyer may pass it over.
use Rattle.std.specs.Prelude.{ℕ, ◌≤◌}
use Rattle.pattern.specs.Positions.{occurrence_limit}
use Rattle.meaning.specs.Book as Plain
use Rattle.meaning.specs.Limits.{symbol_limit}
use Rattle.book.specs.declared.Book.{Book}
use Rattle.book.specs.Books.{view_book}

-- counts that do not pass the ends of the arrays
pub record Counts (b : Book) : Type 0 where
  pub positions : b.positions ≤ occurrence_limit
  pub symbols : b.symbols ≤ symbol_limit

-- the view of the book where matches begin at the positions of m
abbrev pub view_from : ℕ → Book → Plain.Book
view_from m b = Plain.starting_at m (view_book b)
