-- `reader::short_read` meets its contract: each return is a branch of `reading_of`, chosen by the tests that the code makes.
use mathlib.Core.Path.{◌≡◌, sym, ap, ap₂, ◌∙◌}
use Prim.Native.Nat.{ℕ, ◌≤◌}
use native.Mathlib.Omega.{arith}
use borrow.Author.Tests.{le-ltb, ne_eqb, eqb-true, eqb-false}
use Rattle.std.specs.Prelude.{Ok, Err}
use Rattle.std.proofs.lemmas.Result.{err_from_is_err_and}
use lib.Count.{ones}
use lib.ListN.{length}
use Rattle.pattern.specs.Regex.{Regex}
use Rattle.pattern.specs.Positions.{size}
use Rattle.form.specs.Text.{Bytes}
use Rattle.form.specs.Scan.{Step}
use Rattle.form.specs.Lines as Lines
use Rattle.form.specs.Lines.{lines_of}
use Rattle.form.specs.Parse as Parse
use Rattle.form.specs.Reading.{refused, reading_of, variables_of, match_from}
use Rattle.parsing.proofs.Accepted as Accepted
use Rattle.parsing.proofs.Header.{lines_place}
use Rattle.parsing.proofs.Outcomes.{known}
use Rattle.text.specs.declared.Refusal.{Refusal}
use Rattle.text.specs.Refusals.{refusal_of}
use Rattle.table.specs.Tables.{table_of, view_table}
use Rattle.lines.specs.Results.{lines_read}
use Rattle.lines.specs.declared.LinesRead.{LinesRead}
use Rattle.lines.specs.declared.LinesRefused.{LinesRefused}
use Rattle.lines.proofs.Known.{lines_ok, lines_err}
use Rattle.piece.specs.Pieces.{piece_of}
use Rattle.piece.proofs.Arrays.{whole_symbols, whole_follows}
use Rattle.items.specs.Results.{parsed_of, Readable}
use Rattle.items.specs.declared.Parsed.{Parsed}
use Rattle.items.proofs.Leaves.{good, bad}
use Rattle.book.specs.Answers.{answer_of, answer_for}
use Rattle.book.proofs.Refusals.{answer_refused}
use Rattle.book.specs.Books.{empty_book, book_with, book_for, reading_for, reading}
use Rattle.book.specs.declared.Reading.{Reading}
use Rattle.book.specs.declared.ReadingAnswer.TheVariants as Answer
use Rattle.reader.proofs.Found.{lines_ready, lines_viewed}
use Rattle.reader.proofs.short_read.Goals as goal

-- as `book::refused` has it
abbrev refusal : Refusal → Reading
refusal e = record { answer = answer_for e; book = empty_book; begin_count = 0; end_count = 0 }

refused_reading : (x : Step) → (x.fault ≡ 0 → ⊥) → (x.fault ≡ 1 → ⊥) → reading_for (refused x) ≡ refusal (refusal_of x.fault x.place)
unfolding reading_for
refused_reading x h k = rw (ne_eqb x.fault 0 h, answer_refused x.fault x.place h k)

-- a whole pattern's fragment has the arrays that the book wants
accepted_reading : (vars : ℕ → ℕ) (t : Lines.Table) (r : Regex) → size r ≤ 31 → let x = piece_of vars r 1 in
    reading_for (record { number = 0; place = 0; table = t; tree = r })
    ≡ record { answer = Answer.Accepted; book = book_with (table_of t) x; begin_count = ones x.begins; end_count = ones x.ends }
unfolding reading_for book_for answer_of piece_of
accepted_reading vars t r h = cc (whole_symbols r h, whole_follows r h)

-- an accepted text has a pattern within the limit
few : (s : Bytes) → (reading_of s).number ≡ 0 → size (reading_of s).tree ≤ 31
few s h =
    let (d, r, f) = (Accepted.accepted s).0 h in
    rw (Accepted.fields s d r f) f.shape.occurrences

-- the branches of `reading_of` for a text that is not too long
module _ (s : Bytes) (short : length s ≤ 4096) where
  abbrev whole : Parse.Parsed
  whole = match_from s (lines_of s).table (lines_of s).step.place

  lines_fault : ((lines_of s).step.fault ≡ 0 → ⊥) → reading_of s ≡ refused (lines_of s).step
  unfolding reading_of
  lines_fault h = rw (le-ltb 4096 (length s) short, ne_eqb (lines_of s).step.fault 0 h)

  module _ (h : (lines_of s).step.fault ≡ 0) where
    pattern_fault : (whole.step.fault ≡ 0 → ⊥) → reading_of s ≡ refused whole.step
    unfolding reading_of
    pattern_fault k = rw (le-ltb 4096 (length s) short, h, ne_eqb whole.step.fault 0 k)

    accepted : whole.step.fault ≡ 0 → reading_of s ≡ record { number = 0; place = 0; table = (lines_of s).table; tree = whole.tree }
    unfolding reading_of
    accepted k = rw (le-ltb 4096 (length s) short, h, k)

  -- a refusal is not 1 for it
  not_long : (reading_of s).number ≡ 1 → ⊥
  not_long h = let l = (known s).long h in omega (arith, short, l)

  stopped : (x : Step) → reading_of s ≡ refused x → (x.fault ≡ 0 → ⊥) → refusal (refusal_of x.fault x.place) ≡ reading s
  stopped x r h = sym (ap reading_for r ∙ refused_reading x h (λ k. not_long (ap (λ o. o.number) r ∙ k)))

  -- the same of what the code has read: of the lines
  lines_stop : {e : LinesRefused} → Err e ≡ lines_read (lines_of s) → refusal e.refusal ≡ reading s
  lines_stop h =
      let b = lines_err (lines_of s) h in
      ap (λ e. refusal e.refusal) b.1 ∙ stopped (lines_of s).step (lines_fault b.0) b.0

  module _ {l : LinesRead} (e : Ok l ≡ lines_read (lines_of s)) where
    fine : (lines_of s).step.fault ≡ 0
    fine = (lines_ok (lines_of s) e).0

    same : l ≡ record { place = (lines_of s).step.place; table = table_of (lines_of s).table }
    same = (lines_ok (lines_of s) e).1

    readable : Readable s l.table 0 l.place
    readable = rw same (record { short = short; ready = lines_ready s fine; few = omega arith; in_text = lines_place s })

    -- and of the pattern
    whole_same : parsed_of (variables_of (view_table l.table).table) 0 (match_from s (view_table l.table) l.place)
        ≡ parsed_of (variables_of (view_table l.table).table) 0 whole
    whole_same =
        ap₂ (λ t p. parsed_of (variables_of (view_table l.table).table) 0 (match_from s t p))
        (ap (λ x. view_table x.table) same ∙ lines_viewed s fine) (ap (λ x. x.place) same)

    pattern_stop : {r : Refusal} → Err r ≡ parsed_of (variables_of (view_table l.table).table) 0 (match_from s (view_table l.table) l.place)
        → refusal r ≡ reading s
    pattern_stop g =
        let b = bad (variables_of (view_table l.table).table) 0 whole (g ∙ whole_same) in
        let k = eqb-false _ 0 b.fault in
        ap refusal b.refusal ∙ stopped whole.step (pattern_fault fine k) k

    accepted_same : {a : Parsed} → Ok a ≡ parsed_of (variables_of (view_table l.table).table) 0 (match_from s (view_table l.table) l.place)
        → let x = a.piece in
        record { answer = Answer.Accepted; book = book_with l.table x; begin_count = ones x.begins; end_count = ones x.ends } ≡ reading s
    accepted_same g =
        let b = good (variables_of (view_table l.table).table) 0 whole (g ∙ whole_same) in
        let o = accepted fine (eqb-true _ 0 b.fault) in
        let n : size whole.tree ≤ 31 = rw o at (few s (ap (λ z. z.number) o)) in
        rw (b.piece, ap (λ z. z.table) same) (sym (ap reading_for o ∙ accepted_reading _ (lines_of s).table whole.tree n))

pub returns-in-Err : goal.returns-in-Err
returns-in-Err c = lines_stop c.args.s.now c.requires c.in-Err.ensures

pub match_from-requires : goal.match_from-requires
match_from-requires c = readable c.args.s.now c.requires c.in-Ok.ensures

pub returns-in_err-m : goal.returns-in_err-m
returns-in_err-m c =
    let p = err_from_is_err_and c.from_residual.result c.from_residual.ensures.1 in
    rw (p.1, p.2) (pattern_stop c.args.s.now c.requires c.in-Ok.ensures c.in_err-m.ensures)

pub returns : goal.returns
returns c = rw c.book_of.ensures (accepted_same c.args.s.now c.requires c.in-Ok.ensures c.in_ok-m.ensures)
