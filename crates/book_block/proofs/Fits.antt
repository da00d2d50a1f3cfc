-- The book of every reading fits into words: a refused text leaves zeros, and an accepted one has few declarations, at places in a short text. For
-- the lent call that reads a text into words.
use mathlib.Core.Path.{◌≡◌, refl, sym, ap, ap₂, ◌∙◌}
use mathlib.Core.Bool.{Bool, true, false, ◌&&◌, and-eq-true_iff}
use mathlib.Core.List.{map}
use Prim.Native.Nat.{◌+◌}
use native.Mathlib.Omega.{arith}
use borrow.Author.Tests.{leb-true, lt-ltb, eqb-true, eqb-false}
use lib.Dec.{eqb}
use lib.ListN.{length, take, length-map, length-append}
use Rattle.laws.specs.Lists.{all}
use Rattle.laws.proofs.Lists.{all_map, all_at, all_of}
use Rattle.laws.proofs.Parts.{pad_take, all_pad}
use Rattle.pattern.specs.Regex.{Regex}
use Rattle.meaning.specs.Book.{sound_symbol}
use Rattle.form.specs.Text.{Bytes, Declarations, SymbolLine, spans}
use Rattle.form.specs.Form.{Form, symbol_names}
use Rattle.form.specs.Lines.{bytes_at}
use Rattle.parsing.proofs.Accepted as Accepted
use Rattle.table.specs.Tables.{no_name, name_of}
use Rattle.book.specs.Answers.{number_of}
use Rattle.book.specs.Books.{reading}
use Rattle.book.proofs.Bench.{accepted, held, names_held, names_inside, empty_book_law, lined}
use Rattle.book_block.specs.Fits.{name_fits, symbol_fits, book_fits}

module _ (s : Bytes) (d : Declarations) (r : Regex) (f : Form s d r) where
  -- as many names as declarations
  names_many : length (map name_of (spans d)) ≡ (reading s).book.variables + (reading s).book.symbols
  names_many =
      let e = ap length (Accepted.names_placed s d r f.shape) in
      omega (
        arith,
        (held s d r f).0,
        (held s d r f).1,
        length-map (spans d) name_of,
        length-map (spans d) (bytes_at s),
        length-append d.variables (symbol_names d),
        length-map d.symbols (λ (l : SymbolLine). l.name),
      )

  names_fit : all name_fits (reading s).book.names ≡ true
  unfolding name_fits
  names_fit =
      let b = (reading s).book in
      let xs = map name_of (spans d) in
      let taken : take (b.variables + b.symbols) b.names ≡ xs = ap₂ take (sym names_many) (names_held s d r f) ∙ pad_take 20 no_name xs in
      ap (all name_fits) (names_held s d r f) ∙ all_pad name_fits 20 no_name xs refl (all_of name_fits xs λ x m.
      let k = leb-true (x.start + x.size) (length s) (all_at _ (ap (all _) (sym taken) ∙ names_inside s d r f) m) in
      ap₂ ◌&&◌ (lt-ltb x.start 4294967296 (omega (arith, f.shape.short))) (lt-ltb x.size 4294967296 (omega (arith, f.shape.short))))

  table_fits : all symbol_fits (reading s).book.table ≡ true
  unfolding symbol_fits sound_symbol
  table_fits =
      ap (all symbol_fits) (held s d r f).2 ∙ all_pad symbol_fits 16 _ (map lined d.symbols) refl (all_map symbol_fits lined d.symbols
      ∙ all_of _ d.symbols λ l m.
      let few = leb-true (length l.parameters) 4 (simp and-eq-true_iff at (all_at _ f.shape.symbols m)).0.1 in
      lt-ltb (length l.parameters) 4294967296 (omega arith))

  accepted_fits : book_fits (reading s).book ≡ true
  unfolding book_fits
  accepted_fits =
      let b = (reading s).book in
      ap₂ ◌&&◌ (ap₂ ◌&&◌ (ap₂ ◌&&◌ (ap₂ ◌&&◌
      (lt-ltb b.variables 4294967296 (omega (arith, (held s d r f).0, f.shape.few_variables)))
      (lt-ltb b.symbols 4294967296 (omega (arith, (held s d r f).1, f.shape.few_symbols))))
      (lt-ltb b.positions 4294967296 (omega (arith, (held s d r f).3, f.shape.occurrences)))) names_fit) table_fits

pub read_fits : (text : Bytes) → book_fits (reading text).book ≡ true
unfolding book_fits name_fits symbol_fits
read_fits text = go (eqb (number_of (reading text).answer) 0) refl
  where
    go : (b : Bool) → eqb (number_of (reading text).answer) 0 ≡ b → book_fits (reading text).book ≡ true
    go true e = let (d, r, f) = (accepted text).0 (eqb-true _ 0 e) in accepted_fits text d r f
    go false e = rw (empty_book_law text (eqb-false _ 0 e))
