-- The book as the code holds it: every array padded with zeros to its length; and what a reading hands back.
use Rattle.std.specs.Prelude.{cond, false, map, ◌++◌, ℕ, eqb, get_or, replicate, take}
use Rattle.std.specs.Int.Count.{ones}
use Rattle.laws.specs.Lists.{numbers}
use Rattle.laws.specs.Parts.{pad}
use Rattle.pattern.specs.Regex.{nullable}
use Rattle.pattern.specs.Positions as Positions
use Rattle.meaning.specs.Book as Plain
use Rattle.form.specs.Text.{Bytes, Span}
use Rattle.form.specs.Lines as Lines
use Rattle.form.specs.Reading.{Outcome, reading_of}
use Rattle.piece.specs.declared.Piece.{Piece}
use Rattle.table.specs.declared.Table.{Table}
use Rattle.table.specs.Tables.{table_of, view_symbol}
use Rattle.book.specs.Answers.{answer_of}
use Rattle.book.specs.declared.Book.{Book}
use Rattle.book.specs.declared.Reading.{Reading}

-- "In an empty book all is zero."
unfoldable pub empty_book : Book
empty_book =
    let t = table_of Lines.no_table in
    record {
      variables = 0;
      symbols = 0;
      names = t.names;
      table = t.symbols;
      positions = 0;
      occurrences = replicate Positions.occurrence_limit 0;
      begins = 0;
      ends = 0;
      follows = replicate Positions.occurrence_limit 0;
      empty = false;
    }

-- the book of a table and a pattern's piece, as the code holds them
abbrev pub book_with : Table → Piece → Book
book_with t x =
    record {
      variables = t.variables;
      symbols = t.count;
      names = t.names;
      table = t.symbols;
      positions = x.size;
      occurrences = x.symbols;
      begins = x.begins;
      ends = x.ends;
      follows = x.follows;
      empty = x.empty;
    }

-- the book of an accepted text
unfoldable pub book_for : Outcome → Book
book_for o =
    let t = table_of o.table in
    let r = o.tree in
    record {
      variables = t.variables;
      symbols = t.count;
      names = t.names;
      table = t.symbols;
      positions = Positions.size r;
      occurrences = pad Positions.occurrence_limit 0 (Positions.symbols r);
      begins = Positions.beginning r 1;
      ends = Positions.ending r 1;
      follows = pad Positions.occurrence_limit 0 (map (Positions.following r 1) (numbers 1 (Positions.size r)));
      empty = nullable r;
    }

-- "the book's answer also counts its beginning and its ending positions"; a refused text leaves the "empty book"
unfoldable pub reading_for : Outcome → Reading
reading_for o =
    let accepted : Reading = record {
      answer = answer_of o.number o.place;
      book = book_for o;
      begin_count = ones (Positions.beginning o.tree 1);
      end_count = ones (Positions.ending o.tree 1);
    } in
    let refused : Reading = record { answer = answer_of o.number o.place; book = empty_book; begin_count = 0; end_count = 0 } in
    cond (eqb o.number 0) accepted refused

-- what a reading hands back of any bytes
abbrev pub reading : Bytes → Reading
reading s = reading_for (reading_of s)

-- the book of the matcher: the declared parts of the struct
unfoldable pub view_book : Book → Plain.Book
view_book b =
    record {
      variables = b.variables;
      symbols = map view_symbol (take b.symbols b.table);
      occurrences = take b.positions b.occurrences;
      begins = b.begins;
      ends = b.ends;
      follows = take b.positions b.follows;
      empty = b.empty;
    }

-- "The name of a declared item, asked by its number (variables from 0, then symbols)": its declaring place; "for a number not
-- declared, or a refused book, the empty part"
unfoldable pub name_place : Bytes → ℕ → Span
name_place s n = let o = reading_of s in get_or (o.table.variables ++ o.table.symbols) n (record { start = 0; size = 0 })

unfoldable pub name_bytes : Bytes → ℕ → Bytes
name_bytes s n = Lines.bytes_at s (name_place s n)
