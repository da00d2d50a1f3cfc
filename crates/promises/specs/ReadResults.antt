-- What is promised of the very results of `read`, `name_place` and `name`, whatever their contracts call it: the functions of the crate handed have
-- these for contracts, and `reading_decided` says that they leave one result. For the buyer of the Bench level.
use Rattle.std.specs.Prelude.{◌≡◌, true, false, [], map, ◌↔◌, ℕ, ◌≤◌, ◌<◌, length, get_or, replicate}
use Rattle.laws.specs.Bits.{bit}
use Rattle.laws.specs.Lists.{keep, numbers}
use Rattle.laws.specs.Parts.{pad}
use Rattle.pattern.specs.Regex.{Regex, nullable}
use Rattle.pattern.specs.Positions as Positions
use Rattle.form.specs.Text.{Bytes, is_bytes, SymbolLine, Declarations, spans}
use Rattle.form.specs.Form.{Form, all_names}
use Rattle.table.specs.declared.Symbol.{Symbol}
use Rattle.table.specs.Tables.{parameter_of, name_of}
use Rattle.book.specs.declared.Book.{Book}
use Rattle.book.specs.declared.Reading.{Reading}
use Rattle.book.specs.declared.ReadingAnswer.{ReadingAnswer}
use Rattle.book.specs.declared.ReadingAnswer.TheVariants.{Accepted, TooLong, BadLine, AboveLimit, Redeclared}
use Rattle.book.specs.declared.ReadingAnswer.TheVariants.{Undeclared, BadPattern, EmptyWord, Unbound}
use Rattle.book.specs.Answers.{number_of, place_of}
use Rattle.fault.specs.Rules.{Rules}

-- n is the number, and p the place, of a reading's answer: the table of "What a call hands back", 0 to 8
pub record ReadingTold (a : ReadingAnswer) (n p : ℕ) : Type 0 where
  pub accepted : a ≡ Accepted → (n ≡ 0) × (p ≡ 0)
  pub too_long : a ≡ TooLong → (n ≡ 1) × (p ≡ 4096)
  pub bad_line : (k : ℕ) → a ≡ BadLine k → (n ≡ 2) × (p ≡ k)
  pub above_limit : (k : ℕ) → a ≡ AboveLimit k → (n ≡ 3) × (p ≡ k)
  pub redeclared : (k : ℕ) → a ≡ Redeclared k → (n ≡ 4) × (p ≡ k)
  pub undeclared : (k : ℕ) → a ≡ Undeclared k → (n ≡ 5) × (p ≡ k)
  pub bad_pattern : (k : ℕ) → a ≡ BadPattern k → (n ≡ 6) × (p ≡ k)
  pub empty_word : (k : ℕ) → a ≡ EmptyWord k → (n ≡ 7) × (p ≡ k)
  pub unbound : (k : ℕ) → a ≡ Unbound k → (n ≡ 8) × (p ≡ k)

-- the text is of the stated form, for some declarations and tree
abbrev pub InForm : Bytes → Type 0
InForm s = (d : Declarations) × (q : Regex) × Form s d q

-- a `sym` line as the book holds it
abbrev pub line_held : SymbolLine → Symbol
line_held l =
    record { kind = l.kind; count = length l.parameters; parameters = pad 4 (record { tag = 0; number = 0 }) (map parameter_of l.parameters) }

-- the book of declarations and a tree: "one bit to a position", positions from 1; every array padded with zeros
abbrev pub book_declared : Declarations → Regex → Book
book_declared d q =
    record {
      variables = length d.variables;
      symbols = length d.symbols;
      names = pad 20 (record { start = 0; size = 0 }) (map name_of (spans d));
      table = pad 16 (record { kind = 0; count = 0; parameters = replicate 4 (record { tag = 0; number = 0 }) }) (map line_held d.symbols);
      positions = Positions.size q;
      occurrences = pad 31 0 (Positions.symbols q);
      begins = Positions.beginning q 1;
      ends = Positions.ending q 1;
      follows = pad 31 0 (map (Positions.following q 1) (numbers 1 (Positions.size q)));
      empty = nullable q;
    }

-- "In an empty book all is zero."
abbrev pub book_of_zeros : Book
book_of_zeros =
    record {
      variables = 0;
      symbols = 0;
      names = replicate 20 (record { start = 0; size = 0 });
      table = replicate 16 (record { kind = 0; count = 0; parameters = replicate 4 (record { tag = 0; number = 0 }) });
      positions = 0;
      occurrences = replicate 31 0;
      begins = 0;
      ends = 0;
      follows = replicate 31 0;
      empty = false;
    }

-- r is what `read` hands back of the text s
pub record ReadGives (s : Bytes) (r : Reading) : Type 0 where
  pub lent : is_bytes s ≡ true
  -- number and place
  pub rules : Rules s (place_of r.answer) (number_of r.answer)
  pub accepted : (number_of r.answer ≡ 0) ↔ InForm s
  -- the book of an accepted text; "the book's answer also counts its beginning and its ending positions"
  pub book : (d : Declarations) (q : Regex) → Form s d q → r.book ≡ book_declared d q
  pub beginning : InForm s → r.begin_count ≡ length (keep (λ p. bit p r.book.begins) (numbers 1 r.book.positions))
  pub ending : InForm s → r.end_count ≡ length (keep (λ p. bit p r.book.ends) (numbers 1 r.book.positions))
  -- a refused text leaves the empty book, and no counts
  pub refused : (InForm s → ⊥) → (r.book ≡ book_of_zeros) × (r.begin_count ≡ 0) × (r.end_count ≡ 0)

-- the name with number n is declared at `start`, so many bytes: "variables from 0, then symbols"; "for a number not declared, or a refused book, the
-- empty part"
pub record PlaceGives (s : Bytes) (n start size : ℕ) : Type 0 where
  pub declared : (d : Declarations) (q : Regex) → Form s d q → n < length (all_names d)
      → get_or (spans d) n (record { start = 0; size = 0 }) ≡ record { start = start; size = size }
  pub beyond : (d : Declarations) (q : Regex) → Form s d q → length (all_names d) ≤ n → (start ≡ 0) × (size ≡ 0)
  pub refused : (InForm s → ⊥) → (start ≡ 0) × (size ≡ 0)

-- w is that name
pub record NameGives (s : Bytes) (n : ℕ) (w : Bytes) : Type 0 where
  pub declared : (d : Declarations) (q : Regex) → Form s d q → n < length (all_names d) → w ≡ get_or (all_names d) n []
  pub beyond : (d : Declarations) (q : Regex) → Form s d q → length (all_names d) ≤ n → w ≡ []
  pub refused : (InForm s → ⊥) → w ≡ []
