-- The words that `watch_read` leaves of an accepted text are read back as the book that was read; those of a refused text are zeros. For the demands.
use mathlib.Core.Path.{◌≡◌, refl, sym, ap, subst, ◌∙◌}
use mathlib.Core.Bool.{true, and-eq-true_iff}
use mathlib.Core.List.{map, Memᴰ}
use mathlib.Core.Logic.{◌↔◌}
use Prim.Native.Nat.{◌≤◌}
use native.Mathlib.Omega.{arith}
use borrow.Author.Tests.{leb-true, eq-eqb, ne_eqb}
use lib.Dec.{leb}
use lib.ListN.{length, replicate, length-map, length-append}
use Rattle.laws.specs.Bits.{bit}
use Rattle.laws.specs.Lists.{keep, numbers}
use Rattle.laws.proofs.Lists.{all_at, mem_map, length_numbers}
use Rattle.laws.proofs.Parts.{pad_length, mem_pad}
use Rattle.pattern.specs.Regex.{Regex}
use Rattle.pattern.specs.Positions as Positions
use Rattle.pattern.proofs.Masks.{symbols_length}
use Rattle.meaning.specs.Book.{sound_symbol}
use Rattle.form.specs.Text.{Bytes, is_bytes, SymbolLine, Declarations, symbol_of, spans}
use Rattle.form.specs.Lines.{bytes_at}
use Rattle.form.specs.Form.{Form}
use Rattle.parsing.proofs.Accepted as Accepted
use Rattle.table.specs.Tables.{name_of, no_name}
use Rattle.book.specs.Answers.{number_of, place_of}
use Rattle.book.specs.declared.ReadingAnswer.{ReadingAnswer}
use Rattle.book.specs.declared.ReadingAnswer.TheVariants as Answer
use Rattle.fault.specs.Rules.{Rules}
use Rattle.least.proofs.Refused.{refused}
use Rattle.book.specs.Books.{reading}
use Rattle.book.proofs.Bench as Bench
use Rattle.blocks.specs.BookBlock.{book_in}
use Rattle.blocks.specs.Lent.{read_left}
use Rattle.blocks.proofs.Books.{Sized, book_back}

-- an argument place for each of four in a symbol as the book holds it
lined_four : (l : SymbolLine) → length l.parameters ≤ 4 → length (Bench.lined l).parameters ≡ 4
lined_four l h = pad_length 4 _ (map Bench.coded l.parameters) (omega (arith, length-map l.parameters Bench.coded))

module _ (text : Bytes) (d : Declarations) (r : Regex) (f : Form text d r) where
  spans_few : length (spans d) ≤ 20
  spans_few =
      omega (
        arith,
        sym (length-map (spans d) (bytes_at text)),
        ap length (Accepted.names_placed text d r f.shape),
        length-append d.variables (map (λ l. l.name) d.symbols),
        length-map d.symbols (λ l. l.name),
        f.shape.few_variables,
        f.shape.few_symbols,
      )

  few_parameters_law : (l : SymbolLine) → Memᴰ l d.symbols → length l.parameters ≤ 4
  unfolding sound_symbol
  few_parameters_law l m =
      let h = all_at (λ l. sound_symbol (length d.variables) (symbol_of l)) f.shape.symbols m in
      let few : leb (length l.parameters) 4 ≡ true = (simp and-eq-true_iff at h).0.1 in
      leb-true (length l.parameters) 4 few

  pub read_sized : Sized (reading text).book
  read_sized =
      let (_, _, table, _, occurrences, _, _, follows, _) = Bench.held text d r f in
      let positions : Positions.size r ≤ 31 = (Accepted.form_proper text d r f).occurrences in
      record {
        names = ap length (Bench.book_names text d r f) ∙ pad_length 20 no_name (map name_of (spans d)) (omega (arith, length-map (spans d) name_of, spans_few));
        table = ap length table ∙ pad_length 16 _ (map Bench.lined d.symbols) (omega (arith, length-map d.symbols Bench.lined, f.shape.few_symbols));
        parameters = λ y m.
            mem_pad (λ y. length y.parameters ≡ 4) 16 _ (map Bench.lined d.symbols) refl
            (λ x k. let (l, j, e) = (mem_map Bench.lined x d.symbols).0 k in ap (λ z. length z.parameters) e ∙ lined_four l (few_parameters_law l j)) y
            (subst (Memᴰ y) table m);
        occurrences = ap length occurrences ∙ pad_length 31 0 (Positions.symbols r) (omega (arith, symbols_length r, positions));
        follows = ap length follows
            ∙ pad_length 31 0 _
            (omega (arith, length-map (numbers 1 (Positions.size r)) (Positions.following r 1), length_numbers 1 (Positions.size r), positions));
      }

-- an accepted text
pub read_back : (text : Bytes) → (read_left text).number ≡ 0 → book_in (read_left text).book ≡ (reading text).book
unfolding read_left
read_back text h =
    let (d, r, f) = (Bench.accepted text).0 h in
    rw (eq-eqb (number_of (reading text).answer) 0 h) (book_back (reading text).book (read_sized text d r f))

-- a refused one
pub refused_zeros : (text : Bytes) → ((read_left text).number ≡ 0 → ⊥)
    → ((read_left text).book ≡ replicate 269 0) × ((read_left text).begins ≡ 0) × ((read_left text).ends ≡ 0)
unfolding read_left
refused_zeros text h =
    let (_, b, e) = Bench.refusal_book text h in
    rw (ne_eqb (number_of (reading text).answer) 0 h) (refl, b, e)

-- number and place by the rules for texts; 0 just where the text is of the stated form, and then place 0 and the counts of the book's own positions
pub read_rules : (text : Bytes) → is_bytes text ≡ true → Rules text (read_left text).place (read_left text).number
unfolding read_left
read_rules text lent = refused text lent

pub read_accepts : (text : Bytes) → ((read_left text).number ≡ 0) ↔ ((d : Declarations) × (r : Regex) × Form text d r)
unfolding read_left
read_accepts text = Bench.accepted text

no_place_beside : (a : ReadingAnswer) → number_of a ≡ 0 → place_of a ≡ 0
no_place_beside Answer.Accepted h = refl
no_place_beside Answer.TooLong h = absurd (omega (arith, h))
no_place_beside (Answer.BadLine p) h = absurd (omega (arith, h))
no_place_beside (Answer.AboveLimit p) h = absurd (omega (arith, h))
no_place_beside (Answer.Redeclared p) h = absurd (omega (arith, h))
no_place_beside (Answer.Undeclared p) h = absurd (omega (arith, h))
no_place_beside (Answer.BadPattern p) h = absurd (omega (arith, h))
no_place_beside (Answer.EmptyWord p) h = absurd (omega (arith, h))
no_place_beside (Answer.Unbound p) h = absurd (omega (arith, h))

pub read_counts : (text : Bytes) → (read_left text).number ≡ 0 → let b = book_in (read_left text).book in
    ((read_left text).place ≡ 0) × ((read_left text).begins ≡ length (keep (λ p. bit p b.begins) (numbers 1 b.positions)))
    × ((read_left text).ends ≡ length (keep (λ p. bit p b.ends) (numbers 1 b.positions)))
unfolding read_left
read_counts text h =
    let (d, r, f) = (Bench.accepted text).0 h in
    let (begins, ends) = Bench.counted_bits text d r f in
    let place = no_place_beside (reading text).answer h in
    rw (read_back text h) (place, begins, ends)
