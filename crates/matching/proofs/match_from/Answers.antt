-- `matching::match_from` meets its contract: each return is a branch of `match_from`, chosen by the tests that the code makes.
use mathlib.Core.Path.{◌≡◌, sym, ap, ◌∙◌}
use mathlib.Core.Bool.{true, false}
use Prim.Native.Nat.{ℕ, ◌+◌, ◌≤◌}
use native.Mathlib.Omega.{arith}
use lib.Dec.{eqb}
use lib.ListN.{length}
use Rattle.std.proofs.lemmas.Result.{err_from_is_err_and}
use Rattle.pattern.specs.Regex.{nullable, bound_by}
use Rattle.form.specs.Text.{Bytes}
use Rattle.form.specs.Scan.{at, fail, spaces_end}
use Rattle.form.specs.Parse as Parse
use Rattle.form.specs.Reading.{variables_of, last_line, all_bits, match_from}
use Rattle.parsing.proofs.Faults.{before_end}
use Rattle.parsing.proofs.Fuel.{alternation_ends}
use Rattle.text.specs.declared.Refusal.{Refusal}
use Rattle.text.specs.Refusals.{refusal_of}
use Rattle.piece.specs.Pieces.{piece_of}
use Rattle.table.specs.Tables.{view_table, table_of, Ready}
use Rattle.table.specs.declared.Table.{Table}
use Rattle.items.specs.Results.{parsed_of}
use Rattle.items.specs.declared.Parsed.{Parsed}
use Rattle.items.proofs.Leaves.{Good, Bad, good, bad, bad_parsed, differs}
use Rattle.matching.proofs.match_from.Goals as goal
use Rattle.matching.proofs.match_from.Goals.{Else-ne, In_ok-a}

variables_length : (s : Bytes) (t : Table) → Ready s t → t.variables ≡ length (view_table t).variables
unfolding table_of
variables_length s t r = ap (λ u. u.variables) r.coded

abbrev vars : Table → ℕ → ℕ
vars t = variables_of (view_table t).table

module _ (s : Bytes) (t : Table) (p : ℕ) where
  abbrev pattern : Parse.Parsed
  pattern = Parse.pattern_from s (view_table t).symbols (p + 1)

  abbrev line : Parse.Parsed
  line = last_line s pattern

  abbrev whole : Parse.Parsed
  whole = match_from s (view_table t) p

  -- no space behind the word
  unspaced : eqb (at s p) 32 ≡ false → whole ≡ Parse.failed (fail 2 p)
  unfolding match_from
  unspaced h = rw h

  line_bad : {e : Refusal} → Bad e pattern → Bad e line
  unfolding last_line
  line_bad b = rw b.fault b

  module _ (spaced : eqb (at s p) 32 ≡ true) where
    faulty : {e : Refusal} → Bad e line → whole ≡ line
    unfolding match_from
    faulty b = rw (spaced, b.fault)

    whole_bad : {e : Refusal} → Bad e line → Bad e whole
    whole_bad b = rw (faulty b) b

    module _ {a : Parsed} (g : Good (vars t) 0 a line) where
      empty_same : nullable line.tree ≡ a.piece.empty
      unfolding piece_of
      empty_same = sym (ap (λ x. x.empty) g.piece)

      bound_same : bound_by (vars t) line.tree ≡ a.piece.bound
      unfolding piece_of
      bound_same = sym (ap (λ x. x.bound) g.piece)

      empty : a.piece.empty ≡ true → whole ≡ Parse.failed (fail 7 (spaces_end s (p + 1)))
      unfolding match_from
      empty k = rw (spaced, g.fault, empty_same, k)

      module _ (r : Ready s t) (k : a.piece.empty ≡ false) where
        bound : all_bits t.variables a.piece.bound ≡ true → whole ≡ line
        unfolding match_from
        bound b = rw (spaced, g.fault, empty_same, k, bound_same, ← variables_length s t r, b)

        unbound : all_bits t.variables a.piece.bound ≡ false → whole ≡ Parse.failed (fail 8 (spaces_end s (p + 1)))
        unfolding match_from
        unbound b = rw (spaced, g.fault, empty_same, k, bound_same, ← variables_length s t r, b)

pub returns-then-ne : goal.returns-then-ne
unfolding parsed_of refusal_of
returns-then-ne c =
    let a = c.args in
    rw (unspaced a.s.now a.t a.p (differs a.s.now a.p 32 (omega arith) c.peek.ensures c.ne.ensures c.if-ne.true))

-- behind the word stands a space
space_at : (c : Else-ne) → let a = c.args in eqb (at a.s.now a.p) 32 ≡ true
space_at c = let a = c.args in differs a.s.now a.p 32 (omega arith) c.peek.ensures c.ne.ensures c.if-ne.false

goes_on : (c : Else-ne) → let a = c.args in a.p + 1 ≤ length a.s.now
goes_on c = let a = c.args in before_end a.s.now a.p 32 (omega arith) (space_at c)

pub alternation-requires : goal.alternation-requires
alternation-requires c =
    let r = c.requires in
    (record { short = r.short; ready = r.ready; few = r.few; in_text = goes_on (goal.at.alternation-requires c).Else-ne }, omega arith)

pub returns-in_err-whole : goal.returns-in_err-whole
unfolding Parse.pattern_from
returns-in_err-whole c =
    let a = c.args in
    let f = err_from_is_err_and c.from_residual.result c.from_residual.ensures.1 in
    let b = line_bad a.s.now a.t a.p (bad (vars a.t) 0 (pattern a.s.now a.t a.p) c.in_err-whole.ensures) in
    rw (f.1, f.2) (bad_parsed (vars a.t) 0 (whole a.s.now a.t a.p) (whole_bad a.s.now a.t a.p (space_at (goal.at.returns-in_err-whole c).Else-ne) b))

pub last_line-requires : goal.last_line-requires
unfolding Parse.pattern_from
last_line-requires c =
    let a = c.args in
    rw (good (vars a.t) 0 (pattern a.s.now a.t a.p) c.in_ok-whole.ensures).place
    (alternation_ends a.s.now c.requires.short (view_table a.t).symbols _ 16 0 _ (goes_on (goal.at.last_line-requires c).Else-ne)).inside

pub returns-in_err-a : goal.returns-in_err-a
unfolding Parse.pattern_from
returns-in_err-a c =
    let a = c.args in
    let f = err_from_is_err_and c.from_residual-in_err-a.result c.from_residual-in_err-a.ensures.1 in
    let b = bad (vars a.t) 0 (line a.s.now a.t a.p) (c.in_err-a.ensures _ 0 _ c.in_ok-whole.ensures) in
    rw (f.1, f.2) (bad_parsed (vars a.t) 0 (whole a.s.now a.t a.p) (whole_bad a.s.now a.t a.p (space_at (goal.at.returns-in_err-a c).Else-ne) b))

-- the line is read
line_read : (c : In_ok-a) → let a = c.args in Good (vars a.t) 0 c.in_ok-a.a (line a.s.now a.t a.p)
unfolding Parse.pattern_from
line_read c = let a = c.args in good (vars a.t) 0 (line a.s.now a.t a.p) (c.in_ok-a.ensures _ 0 _ c.in_ok-whole.ensures)

pub returns-then-a : goal.returns-then-a
unfolding parsed_of refusal_of
returns-then-a c =
    let a = c.args in
    let h = goal.at.returns-then-a c in
    rw (empty a.s.now a.t a.p (space_at h.Else-ne) (line_read h.In_ok-a) c.if-a.true, ← c.spaces_end-first.ensures)

pub all_bits-requires : goal.all_bits-requires
all_bits-requires c = c.requires.ready.few_variables

pub returns-then-not-all_bits : goal.returns-then-not-all_bits
unfolding parsed_of refusal_of
returns-then-not-all_bits c =
    let a = c.args in
    let h = goal.at.returns-then-not-all_bits c in
    rw (
      unbound a.s.now a.t a.p (space_at h.Else-ne) (line_read h.In_ok-a) c.requires.ready c.if-a.false (sym c.all_bits.ensures ∙ c.if-not-all_bits.true),
      ← c.spaces_end-first.ensures,
    )

pub returns : goal.returns
unfolding Parse.pattern_from
returns c =
    let a = c.args in
    let h = goal.at.returns c in
    rw (bound a.s.now a.t a.p (space_at h.Else-ne) (line_read h.In_ok-a) c.requires.ready c.if-a.false (sym c.all_bits.ensures ∙ c.if-not-all_bits.false))
    (c.in_ok-a.ensures _ 0 _ c.in_ok-whole.ensures)
