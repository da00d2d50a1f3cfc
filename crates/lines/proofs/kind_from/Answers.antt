-- `lines::kind_from` meets its contract: KIND by `words::kind_of`, ARGS by `arguments_from`.
use mathlib.Core.Path.{refl, ap}
use native.Mathlib.Omega.{arith}
use Rattle.std.proofs.lemmas.Result.{err_from_is_err_and}
use Rattle.form.specs.Scan.{kind_of}
use Rattle.form.specs.Lines.{want_word}
use Rattle.text.specs.Refusals.{refusal_of}
use Rattle.text.proofs.Steps.{step_ok, step_err, brought_other}
use Rattle.table.specs.Tables.{span_of, view_table}
use Rattle.lines.proofs.Args.{want_inside, bare_count, bare_kept, bare_reads, kind_fault, kind_wrong, kind_err, kind_ok, kind_none, kind_some}
use Rattle.lines.proofs.Gaps.{word_within}
use Rattle.lines.proofs.kind_from.Goals as goal

pub returns-in_err-q : goal.returns-in_err-q
returns-in_err-q c =
    let a = c.args in
    let p = err_from_is_err_and c.from_residual.result c.from_residual.ensures.1 in
    let f = step_err (want_word a.s.now a.p) c.in_err-q.ensures in
    rw (p.1, p.2, kind_fault a.s.now (view_table a.t).variables (span_of a.name) a.p refl f.0)
    (brought_other (want_word a.s.now a.p) _ c.in_err-q.ensures _)

pub kind_of-requires : goal.kind_of-requires
kind_of-requires c =
    let a = c.args in
    let step = step_ok (want_word a.s.now a.p) c.in_ok-q.ensures in
    word_within a.s.now c.in_ok-q.q _ c.word_end-e.ensures (omega (arith, want_inside a.s.now a.p c.requires.1, ap (λ x. x.place) step))

pub returns-in_default : goal.returns-in_default
unfolding refusal_of
returns-in_default c =
    let a = c.args in
    let step = step_ok (want_word a.s.now a.p) c.in_ok-q.ensures in
    rw (kind_wrong a.s.now (view_table a.t).variables (span_of a.name) a.p step refl c.word_end-e.ensures refl
    (kind_none (kind_of a.s.now c.in_ok-q.q c.word_end-e.result) c.in_default.ensures))

pub arguments_from-requires : goal.arguments_from-requires
arguments_from-requires c =
    let a = c.args in
    let step = step_ok (want_word a.s.now a.p) c.in_ok-q.ensures in
    let word = word_within a.s.now c.in_ok-q.q _ c.word_end-e.ensures (omega (arith, want_inside a.s.now a.p c.requires.1, ap (λ x. x.place) step)) in
    let h = c.no_symbol-y.ensures in
    (c.requires.0, bare_kept h c.in-Some.kind, omega (arith, bare_count h 0), word.1)

pub returns-in_err-r : goal.returns-in_err-r
returns-in_err-r c =
    let a = c.args in
    let vs = (view_table a.t).variables in
    let step = step_ok (want_word a.s.now a.p) c.in_ok-q.ensures in
    let p = err_from_is_err_and c.from_residual-in_err-r.result c.from_residual-in_err-r.ensures.1 in
    let k = kind_some (kind_of a.s.now c.in_ok-q.q c.word_end-e.result) c.in-Some.ensures in
    rw (p.1, p.2)
    (kind_err a.s.now vs (span_of a.name) a.p step refl c.word_end-e.ensures k.0 k.1
    (bare_reads c.no_symbol-y.ensures c.in-Some.kind a.s.now vs c.word_end-e.result c.in_err-r.ensures))

pub returns : goal.returns
returns c =
    let a = c.args in
    let vs = (view_table a.t).variables in
    let step = step_ok (want_word a.s.now a.p) c.in_ok-q.ensures in
    let k = kind_some (kind_of a.s.now c.in_ok-q.q c.word_end-e.result) c.in-Some.ensures in
    kind_ok a.s.now vs (span_of a.name) a.p step refl c.word_end-e.ensures k.0 k.1
    (bare_reads c.no_symbol-y.ensures c.in-Some.kind a.s.now vs c.word_end-e.result c.in_ok-r.ensures)
