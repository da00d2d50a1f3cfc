-- A book that is written into words is read back from them, whatever it says. For the lent calls.
use mathlib.Core.Path.{◌≡◌, refl, sym, ap, ap₂, ◌∙◌}
use mathlib.Core.Bool.{Bool, true, false, not}
use mathlib.Core.List.{List, [], ◌++◌, map, append_assoc, append-nil, Memᴰ}
use Prim.Native.Nat.{ℕ}
use native.Mathlib.Omega.{arith}
use lib.Dec.{eqb}
use lib.ListN.{length, take, drop, length-append}
use lib.Seq.{take_all, take_at, drop_at, drop-drop}
use Rattle.laws.specs.Lists.{gather}
use Rattle.laws.proofs.Fronts.{gather_length}
use Rattle.table.specs.declared.Parameter.{Parameter}
use Rattle.table.specs.declared.Symbol.{Symbol}
use Rattle.table.specs.declared.Name.{Name}
use Rattle.book.specs.declared.Book.{Book}
use Rattle.blocks.specs.Groups.{groups}
use Rattle.blocks.specs.BookBlock.{name_in, parameter_in, symbol_in, book_held, book_in, name_words, parameter_words, symbol_words, flag, book_head, book_words}
use Rattle.blocks.proofs.Groups.{gathered_back, drop_two}

-- the arrays of a book, and those of each symbol in it, have their lengths, as in any struct
pub record Sized (b : Book) : Type 0 where
  pub names : length b.names ≡ 20
  pub table : length b.table ≡ 16
  pub parameters : (y : Symbol) → Memᴰ y b.table → length y.parameters ≡ 4
  pub occurrences : length b.occurrences ≡ 31
  pub follows : length b.follows ≡ 31

name_back : (x : Name) → name_in (name_words x) ≡ x
unfolding name_in
name_back x = refl

parameter_back : (p : Parameter) → parameter_in (parameter_words p) ≡ p
unfolding parameter_in
parameter_back p = refl

symbol_length : (y : Symbol) → length y.parameters ≡ 4 → length (symbol_words y) ≡ 10
symbol_length y h = omega (arith, gather_length parameter_words 2 y.parameters (λ p m. refl))

symbol_back : (y : Symbol) → length y.parameters ≡ 4 → symbol_in (symbol_words y) ≡ y
unfolding symbol_in
symbol_back y h =
    ap (λ l. record { kind = y.kind; count = y.count; parameters = l })
    (ap (λ w. map parameter_in (groups 2 4 w)) (sym (append-nil (gather parameter_words y.parameters)))
    ∙ gathered_back parameter_words 2 parameter_in y.parameters 4 h (λ p m. refl) (λ p m. parameter_back p) [])

flag_back : (e : Bool) → not (eqb (flag e) 0) ≡ e
flag_back true = refl
flag_back false = refl

-- The parts of a book's words.
module _ (b : Book) (sized : Sized b) where
  abbrev N : List ℕ
  N = gather name_words b.names

  abbrev T : List ℕ
  T = gather symbol_words b.table

  abbrev O : List ℕ
  O = b.occurrences

  abbrev F : List ℕ
  F = b.follows

  names_length : length N ≡ 40
  names_length = omega (arith, gather_length name_words 2 b.names (λ x m. refl), sized.names)

  table_length : length T ≡ 160
  table_length = omega (arith, gather_length symbol_words 10 b.table (λ y m. symbol_length y (sized.parameters y m)), sized.table)

  -- all that stands behind the head
  abbrev W : List ℕ
  W = N ++ (T ++ (O ++ F))

  whole : book_words b ≡ book_head b ++ W
  unfolding book_words
  whole = simp append_assoc

  pub book_length : length (book_words b) ≡ 269
  book_length =
      ap length whole
      ∙ omega (
        arith,
        length-append N (T ++ (O ++ F)),
        length-append T (O ++ F),
        length-append O F,
        names_length,
        table_length,
        sized.occurrences,
        sized.follows,
      )

  -- what stands from the positions' symbols and from what follows them on
  from_occurrences : drop 200 W ≡ O ++ F
  from_occurrences = drop_two N T (O ++ F) 40 160 names_length table_length

  from_follows : drop 231 W ≡ F
  from_follows = sym (drop-drop 31 200 W) ∙ ap (drop 31) from_occurrences ∙ drop_at O F 31 sized.occurrences

  names_held : map name_in (groups 2 20 W) ≡ b.names
  names_held = gathered_back name_words 2 name_in b.names 20 sized.names (λ x m. refl) (λ x m. name_back x) (T ++ (O ++ F))

  table_held : map symbol_in (groups 10 16 (drop 40 W)) ≡ b.table
  table_held =
      ap (λ w. map symbol_in (groups 10 16 w)) (drop_at N (T ++ (O ++ F)) 40 names_length)
      ∙ gathered_back symbol_words 10 symbol_in b.table 16 sized.table (λ y m. symbol_length y (sized.parameters y m))
      (λ y m. symbol_back y (sized.parameters y m)) (O ++ F)

  pub book_back : book_in (book_words b) ≡ b
  unfolding book_in book_held
  book_back =
      let made : List Name → List Symbol → List ℕ → List ℕ → Bool → Book = λ n t o f e.
      record {
        variables = b.variables;
        symbols = b.symbols;
        names = n;
        table = t;
        positions = b.positions;
        occurrences = o;
        begins = b.begins;
        ends = b.ends;
        follows = f;
        empty = e;
      } in
      ap book_in whole
      ∙ ap₂ (λ n t. made n t (take 31 (drop 200 W)) (take 31 (drop 231 W)) (not (eqb (flag b.empty) 0))) names_held table_held
      ∙ ap₂ (λ o f. made b.names b.table o f (not (eqb (flag b.empty) 0)))
      (ap (take 31) from_occurrences ∙ take_at O F 31 sized.occurrences) (ap (take 31) from_follows ∙ take_all 31 F (omega (arith, sized.follows)))
      ∙ ap (made b.names b.table O F) (flag_back b.empty)
