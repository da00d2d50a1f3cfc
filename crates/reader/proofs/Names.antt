-- The names of a read book: its array holds their declaring places, which are inside the text.
use mathlib.Core.Path.{◌≡◌, refl, ap, ◌∙◌}
use mathlib.Core.Bool.{Bool, true, false}
use mathlib.Core.List.{◌++◌, map}
use mathlib.Core.Logic.{inl}
use Prim.Native.Nat.{ℕ, ◌+◌, ◌≤◌, ◌<◌}
use native.Mathlib.Omega.{arith}
use lib.Dec.{eqb}
use lib.ListN.{length, get_or, length-append, length-map, get_or-eq_default, get_or-map}
use borrow.Author.Tests.{le-leb, leb-true, eqb-true, eqb-false}
use Rattle.laws.proofs.Lists.{all_get_d, either}
use Rattle.laws.proofs.Parts.{pad_at}
use Rattle.form.specs.Text.{Bytes, Span}
use Rattle.form.specs.Lines.{Table}
use Rattle.form.specs.Reading.{reading_of}
use Rattle.parsing.proofs.Accepted.{refused_empty}
use Rattle.parsing.proofs.Outcomes.{known}
use Rattle.table.specs.Tables.{table_of, view_table, name_of, no_name, inside, Ready}
use Rattle.table.proofs.Codes.{Fits, ready_fits, ready_none}
use Rattle.book.specs.Books.{empty_book, book_for, reading_for, reading, name_place}
use Rattle.book.specs.declared.Reading.{Reading}
use Rattle.reader.proofs.Found.{lines_ready, lines_viewed}

module _ (s : Bytes) where
  abbrev found : Table
  found = (reading_of s).table

  -- accepted or refused, the table found is ready
  abbrev Viewed : Table → Type 0
  Viewed t = Ready s (table_of t) × (view_table (table_of t) ≡ t)

  found_ready : Viewed found
  unfolding table_of view_table
  found_ready = by (eqb (reading_of s).number 0) refl
    where
      by : (b : Bool) → eqb (reading_of s).number 0 ≡ b → Viewed found
      by true e =
          let z = eqb-true (reading_of s).number 0 e in
          let f = ((known s).whole (inl z)).lines in
          rw (ap (λ o. o.table) ((known s).read z)) (lines_ready s f, lines_viewed s f)
      by false e = rw (refused_empty s (eqb-false (reading_of s).number 0 e)).0 (ready_none s, refl)

  found_fits : Fits found
  found_fits = rw found_ready.1 at (ready_fits s (table_of found) found_ready.0)

  -- and the book holds it
  abbrev Holds : Reading → Type 0
  Holds r = let b = r.book in let t = table_of found in (b.variables ≡ t.variables) × (b.symbols ≡ t.count) × (b.names ≡ t.names)

  book_table : Holds (reading s)
  unfolding reading_for book_for empty_book table_of
  book_table =
      let n = (reading_of s).number in
      either Holds (eqb n 0) (λ e. (refl, refl, refl)) λ e. rw (refused_empty s (eqb-false n 0 e)).0 (refl, refl, refl)

  abbrev pub name_count : ℕ
  name_count = (reading s).book.variables + (reading s).book.symbols

  count_spans : name_count ≡ length (found.variables ++ found.symbols)
  unfolding table_of
  count_spans = rw length-append (omega (arith, book_table, found_fits.paired))

  pub few_names : name_count ≤ 20
  unfolding table_of
  few_names = omega (arith, book_table, found_fits.few_variables, found_fits.few_symbols)

  -- a name below the count is the declaring place; beyond there is none
  pub name_held : (n : ℕ) → n < name_count → get_or (reading s).book.names n no_name ≡ name_of (name_place s n)
  unfolding table_of name_place
  name_held n h =
      let l = found.variables ++ found.symbols in
      rw book_table.2 (pad_at 20 no_name (map name_of l) n no_name (rw length-map (omega (arith, count_spans)))
      ∙ get_or-map name_of l n (record { start = 0; size = 0 }))

  pub name_beyond : (n : ℕ) → name_count ≤ n → name_place s n ≡ record { start = 0; size = 0 }
  unfolding name_place
  name_beyond n h = get_or-eq_default (found.variables ++ found.symbols) _ (omega (arith, count_spans))

  -- every declaring place is inside the text
  pub name_inside : (n : ℕ) → (name_place s n).start + (name_place s n).size ≤ length s
  unfolding name_place
  name_inside n =
      let i = rw found_ready.1 at found_ready.0.in_text in
      let none : Span = record { start = 0; size = 0 } in
      leb-true _ _ (all_get_d (inside (length s)) (found.variables ++ found.symbols) n none (le-leb 0 (length s) (omega arith)) i)
