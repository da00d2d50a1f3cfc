-- `lines::symbol_from` meets its contract: the name, then `kind_from`.
use mathlib.Core.Path.{refl, ap, ◌∙◌}
use mathlib.Core.List.{map}
use Prim.Native.Nat.{◌+◌}
use native.Mathlib.Omega.{arith}
use lib.ListN.{take}
use Rattle.std.proofs.lemmas.Result.{err_from_is_err_and}
use Rattle.form.specs.Scan.{fail}
use Rattle.form.specs.Lines.{want_word, declare_fault, kind_from}
use Rattle.text.proofs.Steps.{step_ok, step_err, brought_ok, brought_err, brought_other}
use Rattle.table.specs.declared.Name.{Name}
use Rattle.table.specs.Tables.{span_of, view_table}
use Rattle.table.proofs.Codes.{names_all}
use Rattle.lines.specs.Results.{symbol_read}
use Rattle.lines.proofs.Args.{want_inside}
use Rattle.lines.proofs.Gaps.{word_within}
use Rattle.lines.proofs.Known.{names_inside}
use Rattle.lines.proofs.Symbols.{symbol_fault, symbol_wrong, symbol_next}
use Rattle.lines.proofs.symbol_from.Goals as goal

pub returns-in_err-q : goal.returns-in_err-q
returns-in_err-q c =
    let a = c.args in
    let p = err_from_is_err_and c.from_residual.result c.from_residual.ensures.1 in
    let f = step_err (want_word a.s.now a.p) c.in_err-q.ensures in
    rw (p.1, p.2, symbol_fault a.s.now (view_table a.t) a.p refl f.0) (brought_other (want_word a.s.now a.p) _ c.in_err-q.ensures _)

pub new_name-requires : goal.new_name-requires
new_name-requires c =
    let a = c.args in
    let step = step_ok (want_word a.s.now a.p) c.in_ok-q.ensures in
    let word = word_within a.s.now c.in_ok-q.q _ c.word_end-e.ensures (omega (arith, want_inside a.s.now a.p c.requires.1, ap (λ y. y.place) step)) in
    (word.0, word.1, names_inside a.s.now a.t c.requires.0 (a.t.variables + a.t.count) (omega arith))

pub returns-in_err-name : goal.returns-in_err-name
returns-in_err-name c =
    let a = c.args in
    let q = c.in_ok-q.q in
    let e = c.word_end-e.result in
    let step = step_ok (want_word a.s.now a.p) c.in_ok-q.ensures in
    let p = err_from_is_err_and c.from_residual-in_err-name.result c.from_residual-in_err-name.ensures.1 in
    let x = fail (declare_fault a.s.now (map span_of (take (a.t.variables + a.t.count) a.t.names)) q e) q in
    let f = brought_err x _ c.in_err-name.ensures in
    let told = ap (λ xs. declare_fault a.s.now xs q e) (names_all a.t) in
    rw (p.1, p.2, symbol_wrong a.s.now (view_table a.t) a.p step refl c.word_end-e.ensures told f.0) (brought_other x _ c.in_err-name.ensures _)

pub kind_from-requires : goal.kind_from-requires
kind_from-requires c =
    let a = c.args in
    let step = step_ok (want_word a.s.now a.p) c.in_ok-q.ensures in
    let word = word_within a.s.now c.in_ok-q.q _ c.word_end-e.ensures (omega (arith, want_inside a.s.now a.p c.requires.1, ap (λ y. y.place) step)) in
    (c.requires.0, word.1)

pub returns : goal.returns
returns c =
    let a = c.args in
    let q = c.in_ok-q.q in
    let e = c.word_end-e.result in
    let step = step_ok (want_word a.s.now a.p) c.in_ok-q.ensures in
    let x = fail (declare_fault a.s.now (map span_of (take (a.t.variables + a.t.count) a.t.names)) q e) q in
    let n = brought_ok x _ c.in_ok-name.ensures in
    let told = ap (λ xs. declare_fault a.s.now xs q e) (names_all a.t) in
    rw (symbol_next a.s.now (view_table a.t) a.p step refl c.word_end-e.ensures told n.0)
    (c.kind_from.ensures ∙ ap (λ (k : Name). symbol_read (kind_from a.s.now (view_table a.t).variables (span_of k) e)) n.1)
