-- A book as the matcher sees it, in words, of any struct: what its counts reach, and nothing beyond. For the buyer, beside `nine_rules`,
-- `twelve_rules` and `accepted_leaves`, which speak by `view_book`. And what a reading hands back, with the numbers and places of its answers.
use mathlib.Core.Path.{◌≡◌, refl}
use mathlib.Core.List.{List, map}
use Prim.Native.Nat.{ℕ}
use lib.ListN.{take}
use Rattle.meaning.specs.Events.{ignored, names, fixed}
use Rattle.table.specs.declared.Parameter.{Parameter}
use Rattle.table.specs.Tables.{name_of, view_parameter, view_symbol}
use Rattle.book.specs.Answers.{number_of, place_of}
use Rattle.book.specs.declared.ReadingAnswer.TheVariants.{Accepted, TooLong, BadLine, AboveLimit, Redeclared}
use Rattle.book.specs.declared.ReadingAnswer.TheVariants.{Undeclared, BadPattern, EmptyWord, Unbound}
use Rattle.book.specs.declared.Book.{Book}
use Rattle.book.specs.declared.Reading.{Reading}
use Rattle.book.specs.Books.{view_book}

-- "each a declared variable or `_`", or "`=` and a number": tag 1 and the variable's number, tag 0, tag 2 and the number
pub parameter_read : (n : ℕ)
    → (view_parameter (record { tag = 0; number = n }) ≡ ignored) × (view_parameter (record { tag = 1; number = n }) ≡ names n)
    × (view_parameter (record { tag = 2; number = n }) ≡ fixed n)
parameter_read n = (refl, refl, refl)

-- a declaring place as it is handed back, and as the book has it
pub name_read : (p n : ℕ) → name_of (record { start = p; size = n }) ≡ record { start = p; size = n }
name_read p n = refl

pub symbol_read_law : (k n : ℕ) (ps : List Parameter)
    → view_symbol (record { kind = k; count = n; parameters = ps }) ≡ record { kind = k; parameters = map view_parameter (take n ps) }
unfolding view_symbol
symbol_read_law k n ps = refl

pub book_read : (b : Book)
    → view_book b
    ≡ record {
      variables = b.variables;
      symbols = map view_symbol (take b.symbols b.table);
      occurrences = take b.positions b.occurrences;
      begins = b.begins;
      ends = b.ends;
      follows = take b.positions b.follows;
      empty = b.empty;
    }
unfolding view_book
book_read b = refl

-- the table of "What a call hands back", 0 to 8, with the places
pub answer_words : (p : ℕ)
    → ((number_of Accepted ≡ 0) × (place_of Accepted ≡ 0)) × ((number_of TooLong ≡ 1) × (place_of TooLong ≡ 4096))
    × ((number_of (BadLine p) ≡ 2) × (place_of (BadLine p) ≡ p)) × ((number_of (AboveLimit p) ≡ 3) × (place_of (AboveLimit p) ≡ p))
    × ((number_of (Redeclared p) ≡ 4) × (place_of (Redeclared p) ≡ p)) × ((number_of (Undeclared p) ≡ 5) × (place_of (Undeclared p) ≡ p))
    × ((number_of (BadPattern p) ≡ 6) × (place_of (BadPattern p) ≡ p)) × ((number_of (EmptyWord p) ≡ 7) × (place_of (EmptyWord p) ≡ p))
    × ((number_of (Unbound p) ≡ 8) × (place_of (Unbound p) ≡ p))
answer_words p =
    ((refl, refl), (refl, refl), (refl, refl), (refl, refl), (refl, refl), (refl, refl), (refl, refl), (refl, refl), (refl, refl))

-- what a reading hands back is this and nothing else
pub reading_whole : (r : Reading) → r ≡ record { answer = r.answer; book = r.book; begin_count = r.begin_count; end_count = r.end_count }
reading_whole r = refl
