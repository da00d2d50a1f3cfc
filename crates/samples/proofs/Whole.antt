-- Two readings whole, every number of the structs written out, and the names of a text by their numbers: computed from the definitions
-- alone, so that a book held otherwise (a mask in the other's field, a name's start for its size, numbers from 1) is refused here.
use mathlib.Core.Path.{◌≡◌, refl}
use mathlib.Core.Bool.{false}
use mathlib.Core.List.{List, [], ◌∷◌, map}
use Prim.Native.Nat.{ℕ}
use lib.Count.{ones}
use lib.ListN.{replicate}
use Rattle.laws.specs.Bits.{bit, join, meet, single}
use Rattle.laws.specs.Lists.{numbers}
use Rattle.laws.specs.Parts.{pad}
use Rattle.form.specs.Text.{Bytes, ascii}
use Rattle.form.specs.Scan.{spaces_end, word_end, name_end, next_word, name_fault, kind_of}
use Rattle.form.specs.Lines.{want_word, kind_from, symbol_from, lines_of}
use Rattle.form.specs.Parse.{item_of, name_atom, closed, alternation_from, pattern_from}
use Rattle.form.specs.Reading.{last_line, match_from, reading_of}
use Rattle.table.specs.Tables.{symbol_of, table_of, name_of}
use Rattle.table.specs.declared.Parameter.{Parameter}
use Rattle.table.specs.declared.Symbol.{Symbol}
use Rattle.table.specs.declared.Name.{Name}
use Rattle.book.specs.Answers.{answer_of}
use Rattle.book.specs.Books.{reading_for, book_for, reading, name_place, name_bytes}
use Rattle.book.specs.declared.ReadingAnswer.TheVariants.{Accepted, TooLong, BadLine, AboveLimit, Redeclared}
use Rattle.book.specs.declared.ReadingAnswer.TheVariants.{Undeclared, BadPattern, EmptyWord, Unbound}

abbrev at : (start size : ℕ) → Name
at p n = record { start = p; size = n }

-- the argument place of a variable; one that is ignored, or beyond the count
abbrev bound : ℕ → Parameter
bound v = record { tag = 1; number = v }

abbrev none : Parameter
none = record { tag = 0; number = 0 }

abbrev symbol : (kind count : ℕ) → List Parameter → Symbol
symbol k n ps = record { kind = k; count = n; parameters = ps }

-- B1, and a book with `_`, a KIND of three digits, more endings than beginnings
abbrev one : Bytes
one = ascii "vars d s\nsym load 1 d s\nsym drop 2 d\nsym clean 3 d\nmatch load drop+\n"

abbrev two : Bytes
two = ascii "vars d s\nsym a 123 _ s d\nsym b 209 d\nmatch a (b? | a)\n"

abbrev First : Type 0
First =
    reading one
    ≡ record {
      answer = Accepted;
      book = record {
        variables = 2;
        symbols = 3;
        names = at 5 1 ∷ at 7 1 ∷ at 13 4 ∷ at 28 4 ∷ at 41 5 ∷ replicate 15 (at 0 0);
        table = symbol 1 2 (bound 0 ∷ bound 1 ∷ none ∷ none ∷ []) ∷ symbol 2 1 (bound 0 ∷ none ∷ none ∷ none ∷ [])
            ∷ symbol 3 1 (bound 0 ∷ none ∷ none ∷ none ∷ []) ∷ replicate 13 (symbol 0 0 (replicate 4 none));
        positions = 2;
        occurrences = 0 ∷ 1 ∷ replicate 29 0;
        begins = 2;
        ends = 4;
        follows = 4 ∷ 4 ∷ replicate 29 0;
        empty = false;
      };
      begin_count = 1;
      end_count = 1;
    }

abbrev Second : Type 0
Second =
    reading two
    ≡ record {
      answer = Accepted;
      book = record {
        variables = 2;
        symbols = 2;
        names = at 5 1 ∷ at 7 1 ∷ at 13 1 ∷ at 29 1 ∷ replicate 16 (at 0 0);
        table = symbol 123 3 (none ∷ bound 1 ∷ bound 0 ∷ none ∷ []) ∷ symbol 209 1 (bound 0 ∷ none ∷ none ∷ none ∷ [])
            ∷ replicate 14 (symbol 0 0 (replicate 4 none));
        positions = 3;
        occurrences = 0 ∷ 1 ∷ 0 ∷ replicate 28 0;
        begins = 2;
        ends = 14;
        follows = 12 ∷ 0 ∷ 0 ∷ replicate 28 0;
        empty = false;
      };
      begin_count = 1;
      end_count = 3;
    }

-- "asked by its number (variables from 0, then symbols)"; "for a number not declared, or a refused book, the empty part"
abbrev refused : Bytes
refused = ascii "vars d s\nsym a 1 d s\nmatch b\n"

abbrev PlacesNamed : Type 0
PlacesNamed =
    (map (λ n. name_of (name_place one n)) (numbers 0 7) ≡ at 5 1 ∷ at 7 1 ∷ at 13 4 ∷ at 28 4 ∷ at 41 5 ∷ at 0 0 ∷ at 0 0 ∷ [])
    × (map (name_bytes one) (numbers 0 7) ≡ ascii "d" ∷ ascii "s" ∷ ascii "load" ∷ ascii "drop" ∷ ascii "clean" ∷ [] ∷ [] ∷ [])
    × (map (λ n. name_of (name_place refused n)) (numbers 0 3) ≡ at 0 0 ∷ at 0 0 ∷ at 0 0 ∷ [])
    × (map (name_bytes refused) (numbers 0 3) ≡ [] ∷ [] ∷ [] ∷ [])

-- each case of the enum, for a text that gets it
abbrev AnswersNamed : Type 0
AnswersNamed =
    map (λ s. (reading s).answer)
    (replicate 4097 0 ∷ ascii "vars a \n" ∷ ascii "vars a b c d e\n" ∷ ascii "vars a a\n" ∷ ascii "vars\nsym a 1\nmatch b\n"
    ∷ ascii "vars\nsym a 1\nmatch a)\n" ∷ ascii "vars\nsym a 1\nmatch  a*\n" ∷ ascii "vars d s\nsym a 1 d\nmatch a\n" ∷ [])
    ≡ TooLong ∷ BadLine 6 ∷ AboveLimit 13 ∷ Redeclared 7 ∷ Undeclared 19 ∷ BadPattern 20 ∷ EmptyWord 20 ∷ Unbound 25 ∷ []

pub whole_readings : First × Second × PlacesNamed × AnswersNamed
unfolding bit join meet single pad spaces_end word_end name_end next_word name_fault kind_of want_word kind_from symbol_from lines_of item_of name_atom closed
    alternation_from pattern_from last_line match_from reading_of symbol_of table_of answer_of reading_for book_for name_place name_bytes ones
whole_readings = (refl, refl, (refl, refl, refl, refl), refl)
