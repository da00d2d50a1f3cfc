-- `lines::lines_of` meets its contract: the word `vars`, its line, then the others.
use mathlib.Core.Path.{sym, ap, ◌∙◌}
use Prim.Native.Nat.{zero-le}
use Rattle.std.specs.Prelude.{Err}
use Rattle.text.specs.declared.Refusal.TheVariants as Why
use Rattle.text.specs.Refusals.{refusal_of}
use Rattle.table.specs.declared.Table.{Table}
use Rattle.lines.proofs.Gaps.{word_within}
use Rattle.lines.proofs.Whole.{none_count, none_ready, vars_wrong, vars_read_law, vars_ready, vars_stopped, vars_read}
use Rattle.lines.proofs.lines_of.Goals as goal

pub is_word-requires : goal.is_word-requires
is_word-requires c = word_within _ 0 _ c.word_end-e.ensures zero-le

pub returns-then-not-is_word : goal.returns-then-not-is_word
unfolding refusal_of
returns-then-not-is_word c =
    let n = c.no_table-none.ensures in
    c.refused.ensures
    ∙ rw (vars_wrong c.args.s.now c.word_end-e.ensures n (sym c.is_word.ensures ∙ c.if-not-is_word.true))
    (ap (λ (t : Table). Err (record { refusal = Why.BadLine 0; table = t })) n)

pub variables_from-requires : goal.variables_from-requires
variables_from-requires c =
    let n = c.no_table-none.ensures in
    (none_ready n _, none_count n, (word_within _ 0 _ c.word_end-e.ensures zero-le).1)

pub returns-in-Err : goal.returns-in-Err
returns-in-Err c =
    let s = c.args.s.now in
    let n = c.no_table-none.ensures in
    c.refused-in-Err.ensures
    ∙ vars_stopped s c.word_end-e.ensures n (sym c.is_word.ensures ∙ c.if-not-is_word.false) (c.in-Err.ensures ∙ vars_read_law s c.word_end-e.ensures n)

pub lines_from-requires : goal.lines_from-requires
lines_from-requires c =
    let s = c.args.s.now in
    let n = c.no_table-none.ensures in
    vars_ready s c.word_end-e.ensures n (sym c.is_word.ensures ∙ c.if-not-is_word.false) (c.in-Ok.ensures ∙ vars_read_law s c.word_end-e.ensures n)

pub returns-in-Ok : goal.returns-in-Ok
returns-in-Ok c =
    let s = c.args.s.now in
    let n = c.no_table-none.ensures in
    rw (vars_read s c.word_end-e.ensures n (sym c.is_word.ensures ∙ c.if-not-is_word.false) (c.in-Ok.ensures ∙ vars_read_law s c.word_end-e.ensures n))
    c.lines_from.ensures
