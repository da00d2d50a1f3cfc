-- A book in lent words: BOOK_WORDS of them, the number of the layout first. Any words say something (`book_in`); those of a book are `book_words`.
-- Tags and counts are read as they stand, so that soundness judges them: answer 9 where they are out of range.
use Rattle.std.specs.Prelude.{Bool, cond, not, List, [], ◌∷◌, ◌++◌, map, ℕ, ◌+◌, ◌*◌, eqb, get_or, take, drop}
use Rattle.laws.specs.Lists.{gather}
use Rattle.pattern.specs.Positions.{occurrence_limit}
use Rattle.meaning.specs.Limits.{symbol_limit, parameter_limit}
use Rattle.table.specs.Tables.{names_limit}
use Rattle.table.specs.declared.Parameter.{Parameter}
use Rattle.table.specs.declared.Symbol.{Symbol}
use Rattle.table.specs.declared.Name.{Name}
use Rattle.book.specs.declared.Book.{Book}
use Rattle.book.specs.Books.{empty_book}
use Rattle.blocks.specs.Groups.{groups}

-- The number of this layout: another one for each other layout, and none that is a state's. A block that begins with another number holds the
-- empty book, which is unsound.
abbrev pub book_layout : ℕ
book_layout = 1001

-- the words of a name (its start, its size), of a parameter (its tag, its number), and of a symbol (its kind, its count, its parameters)
abbrev pub name_size : ℕ
name_size = 2

abbrev pub parameter_size : ℕ
parameter_size = 2

abbrev pub symbol_size : ℕ
symbol_size = 2 + parameter_limit * parameter_size

-- where the names, the symbols, the symbols of positions and what follows these begin, behind the layout's number, the counts of variables, symbols
-- and positions, the sets of beginning and of ending positions, and the flag "the empty word is admitted"
abbrev pub names_from : ℕ
names_from = 7

abbrev pub table_from : ℕ
table_from = names_from + names_limit * name_size

abbrev pub occurrences_from : ℕ
occurrences_from = table_from + symbol_limit * symbol_size

abbrev pub follows_from : ℕ
follows_from = occurrences_from + occurrence_limit

-- BOOK_WORDS
abbrev pub book_size : ℕ
book_size = follows_from + occurrence_limit

-- words to structs
unfoldable pub name_in : List ℕ → Name
name_in g = record { start = get_or g 0 0; size = get_or g 1 0 }

unfoldable pub parameter_in : List ℕ → Parameter
parameter_in g = record { tag = get_or g 0 0; number = get_or g 1 0 }

unfoldable pub symbol_in : List ℕ → Symbol
symbol_in g = record { kind = get_or g 0 0; count = get_or g 1 0; parameters = map parameter_in (groups parameter_size parameter_limit (drop 2 g)) }

-- the book in words of this layout; a flag that is not 0 is set
unfoldable pub book_held : List ℕ → Book
book_held w =
    record {
      variables = get_or w 1 0;
      symbols = get_or w 2 0;
      names = map name_in (groups name_size names_limit (drop names_from w));
      table = map symbol_in (groups symbol_size symbol_limit (drop table_from w));
      positions = get_or w 3 0;
      occurrences = take occurrence_limit (drop occurrences_from w);
      begins = get_or w 4 0;
      ends = get_or w 5 0;
      follows = take occurrence_limit (drop follows_from w);
      empty = not (eqb (get_or w 6 0) 0);
    }

unfoldable pub book_in : List ℕ → Book
book_in w = cond (eqb (get_or w 0 0) book_layout) (book_held w) empty_book

-- structs to words
abbrev pub name_words : Name → List ℕ
name_words x = x.start ∷ x.size ∷ []

abbrev pub parameter_words : Parameter → List ℕ
parameter_words p = p.tag ∷ p.number ∷ []

abbrev pub symbol_words : Symbol → List ℕ
symbol_words y = y.kind ∷ y.count ∷ gather parameter_words y.parameters

abbrev pub flag : Bool → ℕ
flag e = cond e 1 0

-- the words before the names
abbrev pub book_head : Book → List ℕ
book_head b = book_layout ∷ b.variables ∷ b.symbols ∷ b.positions ∷ b.begins ∷ b.ends ∷ flag b.empty ∷ []

unfoldable pub book_words : Book → List ℕ
book_words b = book_head b ++ gather name_words b.names ++ gather symbol_words b.table ++ b.occurrences ++ b.follows
