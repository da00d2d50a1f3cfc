-- `lines::lines_from` meets its contract: one turn of `lines_from`; the room for symbols falls.
use mathlib.Core.Path.{◌≡◌, sym, ◌∙◌}
use Prim.Native.Nat.{suc, ◌+◌, ◌-◌}
use native.Mathlib.Omega.{arith}
use Rattle.form.specs.Lines.{symbol_from}
use Rattle.text.specs.Refusals.{refusal_of}
use Rattle.text.proofs.Steps.{brought_err}
use Rattle.table.specs.Tables.{view_table}
use Rattle.lines.proofs.Known.{count_length, lines_kept, lines_refused}
use Rattle.lines.proofs.Gaps.{word_within}
use Rattle.lines.proofs.Symbols.{match_none, match_some, line_wrong, lines_full, line_stopped, line_next}
use Rattle.lines.proofs.Sound.{symbol_ready}
use Rattle.lines.proofs.+lines_from.Goals as goal

pub is_word-requires : goal.is_word-requires
is_word-requires m c = word_within _ _ _ c.word_end-e.ensures c.requires.1

pub returns-then-count-eq0 : goal.returns-then-count-eq0
unfolding refusal_of
returns-then-count-eq0 m c =
    let a = c.args in
    let z : 16 - a.t.count ≡ suc 15 = omega arith in
    c.refused.ensures ∙ lines_kept a.s.now a.t c.requires.0
    (match_none a.s.now (view_table a.t) a.p c.word_end-e.ensures (sym c.is_word.ensures ∙ c.if-is_word.true) (16 - a.t.count) z
    (omega (arith, count_length c.requires.0)))

pub returns-then-is_word : goal.returns-then-is_word
returns-then-is_word m c =
    let a = c.args in
    lines_kept a.s.now a.t c.requires.0
    (match_some a.s.now (view_table a.t) a.p c.word_end-e.ensures (sym c.is_word.ensures ∙ c.if-is_word.true) (16 - a.t.count)
    (λ z. c.if-count-eq0.false (count_length c.requires.0 ∙ z)))

pub is_word-requires-2 : goal.is_word-requires-2
is_word-requires-2 m c = word_within _ _ _ c.word_end-e.ensures c.requires.1

pub returns-then-not-is_word : goal.returns-then-not-is_word
unfolding refusal_of
returns-then-not-is_word m c =
    let a = c.args in
    c.refused-then-not-is_word.ensures ∙ lines_kept a.s.now a.t c.requires.0
    (line_wrong a.s.now (view_table a.t) a.p c.word_end-e.ensures (16 - a.t.count) (sym c.is_word.ensures ∙ c.if-is_word.false)
    (sym c.is_word-2.ensures ∙ c.if-not-is_word.true))

pub returns-then-count-ge-SYMBOLS : goal.returns-then-count-ge-SYMBOLS
unfolding refusal_of
returns-then-count-ge-SYMBOLS m c =
    let a = c.args in
    c.refused-then-count-ge-SYMBOLS.ensures ∙ lines_kept a.s.now a.t c.requires.0
    (lines_full a.s.now (view_table a.t) a.p c.word_end-e.ensures (16 - a.t.count) (sym c.is_word-2.ensures ∙ c.if-not-is_word.false) (omega arith)
    (sym c.is_word.ensures ∙ c.if-is_word.false))

pub symbol_from-requires : goal.symbol_from-requires
symbol_from-requires m c = (c.requires.0, (word_within c.args.s.now c.args.p _ c.word_end-e.ensures c.requires.1).1)

pub returns-in-Err : goal.returns-in-Err
returns-in-Err m c =
    let a = c.args in
    let r = symbol_from a.s.now (view_table a.t) c.word_end-e.result in
    let b = brought_err r.step _ c.in-Err.ensures in
    let z : 16 - a.t.count ≡ suc (16 - (a.t.count + 1)) = omega arith in
    c.refused-in-Err.ensures ∙ lines_refused a.s.now a.t c.requires.0
    (line_stopped a.s.now (view_table a.t) a.p c.word_end-e.ensures (16 - a.t.count) (sym c.is_word-2.ensures ∙ c.if-not-is_word.false) z b.0) b.0 b.1

pub lines_from-requires : goal.lines_from-requires
lines_from-requires m c =
    let a = c.args in
    let word = word_within a.s.now a.p _ c.word_end-e.ensures c.requires.1 in
    let more = symbol_ready a.s.now a.t c.requires.0 (omega arith) c.word_end-e.result word.1 c.in-Ok.ensures c.with_symbol-more.ensures in
    (omega (arith, c.decreases, more.2), (more.0, more.3))

pub returns : goal.returns
returns m c =
    let a = c.args in
    let word = word_within a.s.now a.p _ c.word_end-e.ensures c.requires.1 in
    let more = symbol_ready a.s.now a.t c.requires.0 (omega arith) c.word_end-e.result word.1 c.in-Ok.ensures c.with_symbol-more.ensures in
    let z : 16 - a.t.count ≡ suc (16 - c.with_symbol-more.result.count) = omega (arith, more.2) in
    rw (
      line_next a.s.now (view_table a.t) a.p c.word_end-e.ensures (16 - a.t.count) (sym c.is_word-2.ensures ∙ c.if-not-is_word.false) z more.4,
      ← more.1,
      ← more.5,
    ) c.lines_from.ensures
